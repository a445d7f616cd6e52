-- The offers of the runners so far are taken, and the other runners are as they were.
use Rattle.turn_run.proofs.Words.{◌≡◌, ℕ, ◌<◌, ◌≤◌, take, Some, slice_get, IsFreed, batches_of, held_offers, known_of, Runner}
use Rattle.turn_run.proofs.meeting.take_job.Given as goal

abbrev pub invariant-loop-runner : goal.invariant-loop-runner
invariant-loop-runner l = record {
  batches : l.batches.items ≡ batches_of (held_offers (take l.runner-index l.initial.runners));
  known : l.known ≡ known_of (held_offers (take l.runner-index l.initial.runners));
  freed : (r : ℕ) (a b : Runner) → r < l.runner-index → slice_get l.initial.runners r ≡ Some a → slice_get l.runners r ≡ Some b → IsFreed a b;
  left : (r : ℕ) → l.runner-index ≤ r → slice_get l.runners r ≡ slice_get l.initial.runners r;
}
