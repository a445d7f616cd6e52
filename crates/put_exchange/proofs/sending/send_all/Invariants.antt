-- What was put and what is left of each part are what was to be put.
use Rattle.put_exchange.proofs.Words.{◌≡◌, ℕ, length, Some, slice_get, rounds_in, HasSent, Worker}
use Rattle.put_exchange.proofs.sending.send_all.Given as goal

abbrev pub invariant-rounds : goal.invariant-rounds
invariant-rounds g l = record {
  long : length l.workers ≡ length l.initial.workers;
  sent : (k : ℕ) (old new : Worker _) → slice_get l.initial.workers k ≡ Some old → slice_get l.workers k ≡ Some new → HasSent old new;
}

abbrev pub decreases-rounds : goal.decreases-rounds
decreases-rounds g l = rounds_in l.workers
