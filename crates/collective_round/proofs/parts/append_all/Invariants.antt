-- The parts that are left follow the disk, and with them it is the whole.
use Rattle.collective_round.proofs.Words.{◌≡◌, ◌+◌, map, with_parts, Follow, part_state}
use Rattle.collective_round.proofs.parts.append_all.Given as goal

abbrev pub invariant-loop-part : goal.invariant-loop-part
invariant-loop-part g l = record {
  follow : Follow (g.D.Disk.from l.disk + g.D.Disk.len l.disk)
      (map (λ p. part_state g.D.Disk p) l.part-iterator.rest.items);
  whole : with_parts (part_state g.D.Disk l.disk)
      (map (λ p. part_state g.D.Disk p) l.part-iterator.rest.items)
      ≡ with_parts (part_state g.D.Disk l.initial.disk)
      (map (λ p. part_state g.D.Disk p) l.fn.parts.items);
}
