use Rattle.ncmpi_cli.proofs.Words.{◌≡◌, ◌<◌, ℕ, length, min, slice_index}
use Rattle.ncmpi_cli.proofs.watcher.numbers.Given as goal

abbrev pub invariant-loop-number : goal.invariant-loop-number
invariant-loop-number l = (length l.list.items ≡ l.number) × ((k : ℕ) → k < l.number → slice_index l.list.items k ≡ min (slice_index l.seen k) l.last)
