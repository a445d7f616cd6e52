use Rattle.ncmpi_cli.proofs.Words.{◌≡◌, ◌≤◌, ◌+◌, length, vec_capacity}
use Rattle.ncmpi_cli.proofs.watched_run.watch_in_scope.Given as goal

abbrev pub invariant-loop-view : goal.invariant-loop-view
invariant-loop-view g l = (length l.started.items + length l.view-iterator.rest.items ≡ length l.fn.made.views.items) × (length l.fn.made.views.items ≤ vec_capacity l.started)
