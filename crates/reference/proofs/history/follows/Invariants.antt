use Rattle.std.proofs.Common.{◌≡◌, ◌≤◌, drop}
use Rattle.std.specs.Prelude.{filter, false, ◌↔◌}
use Rattle.serial_spec.specs.History.{concerns, marks_from}
use Rattle.reference.proofs.history.follows.Given as goal

abbrev pub invariant-loop-number : goal.invariant-loop-number
invariant-loop-number l = record {
  same : (filter (concerns l.rank) l.order ≡ marks_from l.rank 0 0 false l.calls)
      ↔ (filter (concerns l.rank) l.left ≡ marks_from l.rank l.number l.meetings l.independent (drop l.number l.calls));
  few : l.meetings ≤ l.number;
}
