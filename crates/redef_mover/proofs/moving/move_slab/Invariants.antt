-- The windows so far are moved, each by one read and one write.
use Rattle.redef_mover.proofs.Words.{◌≡◌, ◌≤◌, after, with_end, slab_moved, slab_of}
use Rattle.redef_mover.proofs.WindowLaws.{calls_before, upper}
use Rattle.redef_mover.proofs.moving.move_slab.Given as goal

abbrev pub invariant-loop-number : goal.invariant-loop-number
invariant-loop-number g l = record {
  from : g.D.Disk.from l.disk ≡ 0;
  len : g.D.Disk.len l.disk ≡ g.D.Disk.len l.initial.disk;
  bytes : g.D.Disk.held l.disk ≡ after (λ file. slab_moved file (upper l.size (slab_of l.slab) l.number)) (g.D.Disk.held l.initial.disk);
  calls : g.D.Disk.calls l.disk ≡ with_end (g.D.Disk.calls l.initial.disk) (calls_before l.size (slab_of l.slab) l.number);
  faults : g.D.Disk.faults l.initial.disk ≤ g.D.Disk.faults l.disk;
}
