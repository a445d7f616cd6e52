-- What is left to be served gives the whole.
use Rattle.put_exchange.proofs.Words.{◌≡◌, ◌≤◌, length, min, planned_turns, source_in, turns_ahead}
use Rattle.put_exchange.proofs.InTurnLaws.{IsInTurn}
use Rattle.put_exchange.proofs.in_turn.lay_in_turn.Given as goal

abbrev pub invariant-turns : goal.invariant-turns
invariant-turns g l = record {
  served : IsInTurn (source_in l.plan) (g.D.Disk.from l.initial.part) (g.D.Disk.len l.initial.part) (min l.plan.hints.now.cb_buffer l.aggregator.domain.len)
      l.plan.list.now (planned_turns l.plan l.aggregator.domain) l.walk
      (g.D.Disk.held l.initial.part) (g.D.Disk.held l.part) (g.D.Disk.calls l.initial.part) (g.D.Disk.calls l.part);
  from : g.D.Disk.from l.part ≡ g.D.Disk.from l.initial.part;
  len : g.D.Disk.len l.part ≡ g.D.Disk.len l.initial.part;
  later : g.D.Disk.faults l.initial.part ≤ g.D.Disk.faults l.part;
}

abbrev pub decreases-turns : goal.decreases-turns
decreases-turns g l = length (turns_ahead l.walk.windows)
