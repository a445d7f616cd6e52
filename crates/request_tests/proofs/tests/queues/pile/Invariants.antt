use Rattle.std.proofs.Common.{◌≡◌, ◌≤◌, ℕ, None}
use Rattle.serial_spec.specs.RankMachine.{status_of}
use Rattle.request_tests.proofs.tests.queues.pile.Given as goal

abbrev pub invariant-loop-id : goal.invariant-loop-id
invariant-loop-id g l = (k : ℕ) → l.id ≤ k → status_of l.queue.posted k ≡ None
