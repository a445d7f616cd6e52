-- The ranks so far have heard, and the other runners and blobs are as they were.
use Rattle.turn_run.proofs.Words.{◌≡◌, ℕ, ◌<◌, ◌≤◌, length, List, Some, slice_get, reply_of, IsAnswered, Runner}
use Rattle.turn_run.proofs.meeting.hear_all.Given as goal

abbrev pub invariant-loop-number : goal.invariant-loop-number
invariant-loop-number l = record {
  long : length l.table.items ≡ length l.fn.table;
  blobs : (r : ℕ) → l.number ≤ r → slice_get l.table.items r ≡ slice_get l.fn.table r;
  heard : (r : ℕ) (a b : Runner) (blobs : List (List ℕ)) → r < l.number → slice_get l.initial.runners r ≡ Some a → slice_get l.runners r ≡ Some b
      → slice_get l.fn.table r ≡ Some blobs → IsAnswered (reply_of l.pair l.records blobs) a b;
  left : (r : ℕ) → l.number ≤ r → slice_get l.runners r ≡ slice_get l.initial.runners r;
}
