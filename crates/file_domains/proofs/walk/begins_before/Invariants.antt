-- The extents so far begin before the place.
use Rattle.file_domains.proofs.Words.{◌≡◌, ℕ, ◌<◌, slice_get, Some, Extent}
use Rattle.file_domains.proofs.walk.begins_before.Given as goal

abbrev pub invariant-loop-i : goal.invariant-loop-i
invariant-loop-i l = (k : ℕ) (e : Extent) → k < l.i → slice_get l.cover k ≡ Some e → e.at < l.place
