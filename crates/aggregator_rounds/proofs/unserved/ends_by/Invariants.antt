-- The entries so far end at the place or before.
use Rattle.aggregator_rounds.proofs.Words.{◌≡◌, ℕ, ◌+◌, ◌<◌, ◌≤◌, slice_get, Some, Owned}
use Rattle.aggregator_rounds.proofs.unserved.ends_by.Given as goal

abbrev pub invariant-loop-i : goal.invariant-loop-i
invariant-loop-i l = (k : ℕ) (o : Owned) → k < l.i → slice_get l.list k ≡ Some o → o.extent.at + o.extent.len ≤ l.place
