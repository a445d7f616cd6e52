-- The gaps between the slabs of the records that are left.
use Rattle.redef_mover.proofs.Words.{◌≡◌, ◌≤◌, IsBeside, gaps, listed, AreSpaced}
use Rattle.redef_mover.proofs.ClearLaws.{above}
use Rattle.redef_mover.proofs.LeftLaws.{zeros, IsLeft}
use Rattle.redef_mover.proofs.gaps.clear_gaps.Given as goal

abbrev pub invariant-loop-record : goal.invariant-loop-record
invariant-loop-record g l = record {
  from : g.D.Disk.from l.disk ≡ 0;
  len : g.D.Disk.len l.disk ≡ g.D.Disk.len l.fn.disk;
  spaced : AreSpaced l.at l.end (above l.slabs l.record);
  left : IsLeft (zeros l.zeros.window) (IsBeside (gaps l.fn.first l.end (listed l.slabs)))
      (gaps l.fn.first l.end (listed l.slabs)) (gaps l.at l.end (above l.slabs l.record))
      (g.D.Disk.held l.fn.disk) (g.D.Disk.held l.disk) (g.D.Disk.calls l.fn.disk) (g.D.Disk.calls l.disk);
  faults : g.D.Disk.faults l.fn.disk ≤ g.D.Disk.faults l.disk;
}
