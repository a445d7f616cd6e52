-- The rank waits for its next call.
use Rattle.turn_run.proofs.Words.{◌≡◌, ◌-◌, ◌≤◌, length, List, None, Some, slice_get, most_calls, setting_of, point, IsCount, IsOnWay, between, calls_of, Arrived, arrived, HasGone, rank_stage, HasToldMore}
use Rattle.turn_run.proofs.runners.Runner.arrive.Given as goal

abbrev pub invariant-alone : goal.invariant-alone
invariant-alone g l = record {
  from : g.D.Disk.from l.disk ≡ 0;
  longer : g.D.Disk.len l.fn.disk ≤ g.D.Disk.len l.disk;
  faults : g.D.Disk.faults l.fn.disk ≤ g.D.Disk.faults l.disk;
  of_header : l.self.rank.header ≡ l.lent.setup.header.now;
  free : l.self.held ≡ None;
  way : IsOnWay l.lent.setup.script.now l.progress.order l.number (between (calls_of l.lent.setup.script.now l.number) l.self) None;
  known : IsCount l.lent.setup.header.now (g.D.Disk.len l.disk) l.self.rank.state.known;
  gone : HasGone l.lent.setup.script.now.hints (setting_of l.lent.setup.script.now l.lent.setup.header.now) l.number (rank_stage l.fn.progress.order (g.D.Disk.held l.fn.disk) (g.D.Disk.calls l.fn.disk) (arrived l.lent.setup.header.now (calls_of l.lent.setup.script.now l.number) l.fn.self)) (rank_stage l.progress.order (g.D.Disk.held l.disk) (g.D.Disk.calls l.disk) (arrived l.lent.setup.header.now (calls_of l.lent.setup.script.now l.number) l.self));
  count : l.progress.records ≡ l.fn.progress.records;
  told : (ranks : List Arrived) → slice_get ranks l.number ≡ Some (arrived l.lent.setup.header.now (calls_of l.lent.setup.script.now l.number) l.fn.self)
      → HasToldMore (setting_of l.lent.setup.script.now l.lent.setup.header.now) (point l.fn.progress.order (g.D.Disk.held l.fn.disk) l.fn.progress.records) ranks l.progress.order (g.T.Told.heard l.fn.told) (g.T.Told.heard l.told);
}

abbrev pub decreases-alone : goal.decreases-alone
decreases-alone g l = most_calls - length l.self.answers
