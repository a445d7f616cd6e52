-- The threads so far were told, and the others are as they were.
use Rattle.thread_run.proofs.Words.{◌≡◌, ℕ, ◌<◌, ◌≤◌, length, Some, slice_get, IsToldToGo, RankHandle}
use Rattle.thread_run.proofs.rank_threads.tell_all.Given as goal

abbrev pub invariant-loop-one : goal.invariant-loop-one
invariant-loop-one g l = record {
  long : length l.ones ≡ length l.initial.ones;
  told : (r : ℕ) (a b : RankHandle) → r < l.one-index → slice_get l.initial.ones r ≡ Some a → slice_get l.ones r ≡ Some b → IsToldToGo a b;
  left : (r : ℕ) → l.one-index ≤ r → slice_get l.ones r ≡ slice_get l.initial.ones r;
}
