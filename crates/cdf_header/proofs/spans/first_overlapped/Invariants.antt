use Rattle.cdf_header.proofs.Words.{ℕ, ◌≤◌, ◌<◌, get_or, Span}
use Rattle.cdf_header.proofs.spans.first_overlapped.Given as goal

abbrev pub invariant-loop-span : goal.invariant-loop-span
invariant-loop-span l = record {
  reach : (k : ℕ) (d : Span) → k < l.span-index → (get_or l.spans k d).end ≤ l.reach;
  apart : (i j : ℕ) (d : Span) → i < j → j < l.span-index → (get_or l.spans j d).number < l.first → (get_or l.spans i d).end ≤ (get_or l.spans j d).begin;
}
