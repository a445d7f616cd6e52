-- The gaps before the slabs that are left.
use Rattle.redef_mover.proofs.Words.{◌≡◌, ◌≤◌, drop, length, IsBeside, behind, gaps_before, AreClearable}
use Rattle.redef_mover.proofs.LeftLaws.{placed, zeros, IsLeft}
use Rattle.redef_mover.proofs.gaps.clear_before.Given as goal

abbrev pub invariant-loop-slab : goal.invariant-loop-slab
invariant-loop-slab g l = record {
  from : g.D.Disk.from l.disk ≡ 0;
  len : g.D.Disk.len l.disk ≡ g.D.Disk.len l.initial.disk;
  clearable : AreClearable (g.D.Disk.len l.initial.disk) l.zeros.window (length l.zeros.bytes.now) l.at (placed l.offset.old l.offset.new (drop l.slab-index l.slabs));
  place : behind l.at (placed l.offset.old l.offset.new (drop l.slab-index l.slabs)) ≡ behind l.initial.at (placed l.offset.old l.offset.new l.slabs);
  left : IsLeft (zeros l.zeros.window) (IsBeside (gaps_before l.initial.at (placed l.offset.old l.offset.new l.slabs)))
      (gaps_before l.initial.at (placed l.offset.old l.offset.new l.slabs)) (gaps_before l.at (placed l.offset.old l.offset.new (drop l.slab-index l.slabs)))
      (g.D.Disk.held l.initial.disk) (g.D.Disk.held l.disk) (g.D.Disk.calls l.initial.disk) (g.D.Disk.calls l.disk);
  faults : g.D.Disk.faults l.initial.disk ≤ g.D.Disk.faults l.disk;
}
