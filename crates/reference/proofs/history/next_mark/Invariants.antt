use Rattle.std.proofs.Common.{◌≡◌, drop}
use Rattle.std.specs.Prelude.{filter}
use Rattle.serial_spec.specs.History.{concerns}
use Rattle.reference.proofs.history.next_mark.Given as goal

abbrev pub invariant-loop-at : goal.invariant-loop-at
invariant-loop-at l = filter (concerns l.rank) l.order ≡ filter (concerns l.rank) (drop l.at l.order)
