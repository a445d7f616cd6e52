-- The slabs of the first k shifts are left.
use Rattle.redef_mover.proofs.Words.{◌≡◌, ◌≤◌, take, reverse, IsUnmoved}
use Rattle.redef_mover.proofs.LeftLaws.{moves, placed, IsLeft}
use Rattle.redef_mover.proofs.moving.move_slabs.Given as goal

abbrev pub invariant-loop-k : goal.invariant-loop-k
invariant-loop-k g l = record {
  from : g.D.Disk.from l.disk ≡ 0;
  len : g.D.Disk.len l.disk ≡ g.D.Disk.len l.initial.disk;
  left : IsLeft (moves l.size) (IsUnmoved (placed l.offset.old l.offset.new l.slabs))
      (reverse (placed l.offset.old l.offset.new l.slabs)) (reverse (placed l.offset.old l.offset.new (take l.k l.slabs)))
      (g.D.Disk.held l.initial.disk) (g.D.Disk.held l.disk) (g.D.Disk.calls l.initial.disk) (g.D.Disk.calls l.disk);
  faults : g.D.Disk.faults l.initial.disk ≤ g.D.Disk.faults l.disk;
}
