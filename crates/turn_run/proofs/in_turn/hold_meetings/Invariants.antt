-- The ranks wait for their next calls.
use Rattle.turn_run.proofs.Words.{◌≡◌, ◌-◌, ◌≤◌, List, Mark, StepErr, most_calls, setting_of, meetings, point, IsCount, AreRunners, AreFree, HaveAnswers, all_between, arrived_all, stage, HasLed, HasToldMore, Runner}
use Rattle.turn_run.proofs.in_turn.hold_meetings.Given as goal

abbrev pub invariant-meetings : goal.invariant-meetings
invariant-meetings g l = record {
  from : g.D.Disk.from l.disk ≡ 0;
  longer : g.D.Disk.len l.fn.disk ≤ g.D.Disk.len l.disk;
  faults : g.D.Disk.faults l.fn.disk ≤ g.D.Disk.faults l.disk;
  number : l.meetings ≡ meetings l.progress.order;
  runners : AreRunners l.lent.setup.script.now l.lent.setup.header.now (g.D.Disk.len l.disk) l.progress.order l.runners;
  free : AreFree l.runners;
  records : IsCount l.lent.setup.header.now (g.D.Disk.len l.disk) l.progress.records;
  led : HasLed l.lent.setup.script.now.hints (setting_of l.lent.setup.script.now l.lent.setup.header.now) l.fn.progress.order l.progress.order
      (stage (g.D.Disk.held l.fn.disk) (g.D.Disk.calls l.fn.disk) l.fn.progress.records (arrived_all l.lent.setup.header.now l.lent.setup.script.now.calls l.fn.runners))
      (stage (g.D.Disk.held l.disk) (g.D.Disk.calls l.disk) l.progress.records (arrived_all l.lent.setup.header.now l.lent.setup.script.now.calls l.runners));
  answered : (e : StepErr) (later : List Mark) (last : List Runner)
      → HaveAnswers (setting_of l.lent.setup.script.now l.lent.setup.header.now) e (point l.progress.order (g.D.Disk.held l.disk) l.progress.records) (all_between l.lent.setup.script.now.calls l.runners) later last
      → HaveAnswers (setting_of l.lent.setup.script.now l.lent.setup.header.now) e (point l.fn.progress.order (g.D.Disk.held l.fn.disk) l.fn.progress.records) (all_between l.lent.setup.script.now.calls l.fn.runners) later last;
  told : HasToldMore (setting_of l.lent.setup.script.now l.lent.setup.header.now) (point l.fn.progress.order (g.D.Disk.held l.fn.disk) l.fn.progress.records) (arrived_all l.lent.setup.header.now l.lent.setup.script.now.calls l.fn.runners) l.progress.order (g.T.Told.heard l.fn.told) (g.T.Told.heard l.told);
}

abbrev pub decreases-meetings : goal.decreases-meetings
decreases-meetings g l = most_calls - l.meetings
