use Rattle.cdf_header.proofs.Words.{ℕ, ◌≤◌, ◌<◌, ◌+◌, length, get_or, Span}
use Rattle.cdf_header.proofs.spans.first_overlapping.Given as goal

abbrev pub invariant-loop-behind : goal.invariant-loop-behind
invariant-loop-behind l = record {
  next : (k : ℕ) (d : Span) → length l.spans ≤ k + l.behind → k < length l.spans → l.next ≤ (get_or l.spans k d).begin;
  apart : (i j : ℕ) (d : Span) → i < j → length l.spans ≤ i + l.behind → j < length l.spans → (get_or l.spans i d).number < l.first → (get_or l.spans i d).end ≤ (get_or l.spans j d).begin;
}
