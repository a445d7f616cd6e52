-- The domains from k on are split off.
use Rattle.collective_round.proofs.Words.{◌≡◌, ◌+◌, ◌≤◌, drop, length, map, vec_capacity, reverse, parts_of, IsFront, part_state}
use Rattle.collective_round.proofs.parts.split_backwards.Given as goal

abbrev pub invariant-loop-k : goal.invariant-loop-k
invariant-loop-k g l = record {
  front : IsFront (drop l.k l.domains)
      (part_state g.D.Disk l.initial.disk)
      (part_state g.D.Disk l.disk);
  parts : map (λ p. part_state g.D.Disk p) (reverse l.parts.items)
      ≡ parts_of (part_state g.D.Disk l.initial.disk) (drop l.k l.domains);
  many : length l.parts.items + l.k ≡ length l.domains;
  room : vec_capacity l.parts ≡ vec_capacity l.initial.parts;
  faults : g.D.Disk.faults l.initial.disk ≤ g.D.Disk.faults l.disk;
}
