-- The windows so far have zeros, and each was one store.
use Rattle.redef_mover.proofs.Words.{◌≡◌, ◌*◌, ◌≤◌, min, after, with_end, cleared, stores_before}
use Rattle.redef_mover.proofs.gaps.clear.Given as goal

abbrev pub invariant-loop-window : goal.invariant-loop-window
invariant-loop-window g l = record {
  from : g.D.Disk.from l.disk ≡ 0;
  len : g.D.Disk.len l.disk ≡ g.D.Disk.len l.initial.disk;
  bytes : g.D.Disk.held l.disk ≡ after (λ file. cleared file (l.at, min l.len (l.window * l.zeros.window))) (g.D.Disk.held l.initial.disk);
  calls : g.D.Disk.calls l.disk ≡ with_end (g.D.Disk.calls l.initial.disk) (stores_before l.zeros.window l.at l.len l.window);
  faults : g.D.Disk.faults l.initial.disk ≤ g.D.Disk.faults l.disk;
}
