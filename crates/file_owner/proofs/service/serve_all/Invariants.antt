-- What was taken so far is done, and nothing of it was strange.
use Rattle.file_owner.proofs.Words.{◌≡◌, ◌≤◌, length, HasServed, taken_from, dataset_setting, AreSame, standing, IsSteady}
use Rattle.file_owner.proofs.service.serve_all.Given as goal

abbrev pub invariant-loop : goal.invariant-loop
invariant-loop g l = record {
  same : AreSame l.initial.out l.out;
  served : HasServed l.dataset.hints.now (dataset_setting l.dataset) (taken_from l.initial.inbox l.inbox l.senders.ended) (standing g.D.Disk g.T.Told l.initial.owner l.initial.out) (standing g.D.Disk g.T.Told l.owner l.out);
  steady : IsSteady l.dataset.header.now (g.D.Disk.len l.out.disk.now) (standing g.D.Disk g.T.Told l.owner l.out);
  lines : length l.out.back.now ≡ length l.initial.out.back.now;
  senders : l.inbox.senders ≡ l.initial.inbox.senders;
  from : g.D.Disk.from l.out.disk.now ≡ 0;
  longer : g.D.Disk.len l.initial.out.disk.now ≤ g.D.Disk.len l.out.disk.now;
  later : g.D.Disk.faults l.initial.out.disk.now ≤ g.D.Disk.faults l.out.disk.now;
}
