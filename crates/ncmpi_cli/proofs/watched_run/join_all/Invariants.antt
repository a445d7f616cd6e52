use Rattle.ncmpi_cli.proofs.Words.{◌≡◌, ◌≤◌, ◌+◌, length, vec_capacity}
use Rattle.ncmpi_cli.proofs.watched_run.join_all.Given as goal

abbrev pub invariant-loop-one : goal.invariant-loop-one
invariant-loop-one g l = (length l.watched.items + length l.one-iterator.rest.items ≡ length l.fn.started.items) × (length l.fn.started.items ≤ vec_capacity l.watched)
