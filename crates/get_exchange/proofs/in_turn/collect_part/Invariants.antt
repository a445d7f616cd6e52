-- What is left to be read gives the whole.
use Rattle.get_exchange.proofs.Words.{◌≡◌, ◌≤◌, length, min, get_turns, turns_ahead}
use Rattle.get_exchange.proofs.TurnReads.{IsReading}
use Rattle.get_exchange.proofs.in_turn.collect_part.Given as goal

abbrev pub invariant-turns : goal.invariant-turns
invariant-turns g l = record {
  reading : IsReading l.plan.list.now (min l.plan.hints.now.cb_buffer l.reader.aggregator.domain.len) (g.D.Disk.from l.initial.part) (g.D.Disk.len l.initial.part)
      (get_turns l.plan l.reader.aggregator.domain) l.walk (g.D.Disk.held l.initial.part) l.initial.table l.table (g.D.Disk.calls l.initial.part) (g.D.Disk.calls l.part);
  held : g.D.Disk.held l.part ≡ g.D.Disk.held l.initial.part;
  from : g.D.Disk.from l.part ≡ g.D.Disk.from l.initial.part;
  len : g.D.Disk.len l.part ≡ g.D.Disk.len l.initial.part;
  later : g.D.Disk.faults l.initial.part ≤ g.D.Disk.faults l.part;
}

abbrev pub decreases-turns : goal.decreases-turns
decreases-turns g l = length (turns_ahead l.walk.windows)
