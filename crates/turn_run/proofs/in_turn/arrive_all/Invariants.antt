-- The ranks so far have arrived, and the others hold no offer.
use Rattle.turn_run.proofs.Words.{◌≡◌, ℕ, ◌<◌, ◌≤◌, None, Some, slice_get, filter, concerns, setting_of, meetings, point, calls_of, AreRunners, HasArrived, arrived_all, stage, HasLed, HasToldMore, Runner}
use Rattle.turn_run.proofs.in_turn.arrive_all.Given as goal

abbrev pub invariant-loop-number : goal.invariant-loop-number
invariant-loop-number g l = record {
  from : g.D.Disk.from l.disk ≡ 0;
  longer : g.D.Disk.len l.fn.disk ≤ g.D.Disk.len l.disk;
  faults : g.D.Disk.faults l.fn.disk ≤ g.D.Disk.faults l.disk;
  runners : AreRunners l.lent.setup.script.now l.lent.setup.header.now (g.D.Disk.len l.disk) l.progress.order l.runners;
  met : meetings l.progress.order ≡ meetings l.fn.progress.order;
  arrived : (r : ℕ) (runner : Runner) → r < l.number → slice_get l.runners r ≡ Some runner → HasArrived (calls_of l.lent.setup.script.now r) runner;
  free : (r : ℕ) (runner : Runner) → l.number ≤ r → slice_get l.runners r ≡ Some runner → runner.held ≡ None;
  same : (r : ℕ) → l.number ≤ r → slice_get l.runners r ≡ slice_get l.fn.runners r;
  others : (r : ℕ) → l.number ≤ r → filter (concerns r) l.progress.order ≡ filter (concerns r) l.fn.progress.order;
  led : (records : ℕ) → HasLed l.lent.setup.script.now.hints (setting_of l.lent.setup.script.now l.lent.setup.header.now) l.fn.progress.order l.progress.order
      (stage (g.D.Disk.held l.fn.disk) (g.D.Disk.calls l.fn.disk) records (arrived_all l.lent.setup.header.now l.lent.setup.script.now.calls l.fn.runners))
      (stage (g.D.Disk.held l.disk) (g.D.Disk.calls l.disk) records (arrived_all l.lent.setup.header.now l.lent.setup.script.now.calls l.runners));
  count : l.progress.records ≡ l.fn.progress.records;
  told : HasToldMore (setting_of l.lent.setup.script.now l.lent.setup.header.now) (point l.fn.progress.order (g.D.Disk.held l.fn.disk) l.fn.progress.records) (arrived_all l.lent.setup.header.now l.lent.setup.script.now.calls l.fn.runners) l.progress.order (g.T.Told.heard l.fn.told) (g.T.Told.heard l.told);
}
