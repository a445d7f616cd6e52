use Rattle.ncmpi_cli.proofs.Words.{◌≡◌, ◌+◌, length, All, AreReadings}
use Rattle.ncmpi_cli.proofs.watched_run.seen_of.Given as goal

abbrev pub invariant-loop-one : goal.invariant-loop-one
invariant-loop-one g l = (l.board ≡ l.initial.board) × (length l.readings.items + length l.one-iterator.rest.items ≡ length l.fn.watched.items) × All (AreReadings l.told) l.readings.items
