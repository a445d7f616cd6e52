-- The entries so far begin before the place.
use Rattle.aggregator_rounds.proofs.Words.{◌≡◌, ℕ, ◌<◌, slice_get, Some, Owned}
use Rattle.aggregator_rounds.proofs.unserved.begins_before.Given as goal

abbrev pub invariant-loop-i : goal.invariant-loop-i
invariant-loop-i l = (k : ℕ) (o : Owned) → k < l.i → slice_get l.list k ≡ Some o → o.extent.at < l.place
