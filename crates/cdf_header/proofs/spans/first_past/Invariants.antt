use Rattle.cdf_header.proofs.Words.{ℕ, ◌≤◌, ◌<◌, get_or, Span}
use Rattle.cdf_header.proofs.spans.first_past.Given as goal

abbrev pub invariant-loop-span : goal.invariant-loop-span
invariant-loop-span l = (k : ℕ) (d : Span) → k < l.span-index → (get_or l.spans k d).number < l.first → (get_or l.spans k d).end ≤ l.place
