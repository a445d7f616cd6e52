use Rattle.std.proofs.Common.{◌≡◌, ℕ, ◌<◌}
use Rattle.std.specs.Prelude.{filter}
use Rattle.serial_spec.specs.History.{concerns, marks}
use Rattle.reference.proofs.history.has_each_rank.Given as goal

abbrev pub invariant-loop-rank : goal.invariant-loop-rank
invariant-loop-rank l = (r : ℕ) → r < l.rank → filter (concerns r) l.order ≡ marks l.script.calls r
