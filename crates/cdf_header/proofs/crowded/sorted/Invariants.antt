use Rattle.cdf_header.proofs.Words.{◌≡◌, ℕ, ◌<◌, get_or, Contains, Span}
use Rattle.cdf_header.proofs.crowded.sorted.Given as goal

abbrev pub invariant-loop-span : goal.invariant-loop-span
invariant-loop-span l = (k : ℕ) (d : Span) → k < l.span-index → (get_or l.spans k d).is_record ≡ l.is_record → Contains l.found.items (get_or l.spans k d)
