-- The slabs of the fixed variables and of the records that are left.
use Rattle.redef_mover.proofs.Words.{◌≡◌, ◌≤◌, reverse, IsUnmoved, listed}
use Rattle.redef_mover.proofs.LeftLaws.{moves, IsLeft}
use Rattle.redef_mover.proofs.MovesLaws.{below}
use Rattle.redef_mover.proofs.moving.move_all.Given as goal

abbrev pub invariant-loop-record : goal.invariant-loop-record
invariant-loop-record g l = record {
  from : g.D.Disk.from l.disk ≡ 0;
  len : g.D.Disk.len l.disk ≡ g.D.Disk.len l.initial.disk;
  left : IsLeft (moves l.size) (IsUnmoved (listed l.slabs)) (reverse (listed l.slabs)) (below l.slabs l.record)
      (g.D.Disk.held l.initial.disk) (g.D.Disk.held l.disk) (g.D.Disk.calls l.initial.disk) (g.D.Disk.calls l.disk);
  faults : g.D.Disk.faults l.initial.disk ≤ g.D.Disk.faults l.disk;
}
