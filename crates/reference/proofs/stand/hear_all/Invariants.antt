-- The ranks so far have heard, and the others wait as they did.
use Rattle.reference.proofs.Words.{◌≡◌, ℕ, ◌<◌, ◌≤◌, Some, slice_get, Reply, Heard, Runner}
use Rattle.reference.proofs.stand.hear_all.Given as goal

abbrev pub invariant-loop-number : goal.invariant-loop-number
invariant-loop-number l = record {
  heard : (r : ℕ) (a b : Runner) → r < l.number → slice_get l.initial.runners r ≡ Some a → slice_get l.runners r ≡ Some b
      → (y : Reply) → slice_get l.replies r ≡ Some y → Heard l.header y a b;
  left : (r : ℕ) → l.number ≤ r → slice_get l.runners r ≡ slice_get l.initial.runners r;
}
