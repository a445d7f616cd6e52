use Rattle.cdf_header.proofs.Words.{ℕ, ◌≤◌, ◌<◌, get_or, Span}
use Rattle.cdf_header.proofs.spans.least_begin.Given as goal

abbrev pub invariant-loop-span : goal.invariant-loop-span
invariant-loop-span l = (k : ℕ) (d : Span) → k < l.span-index → l.least ≤ (get_or l.spans k d).begin
