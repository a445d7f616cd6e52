use Rattle.ncmpi_cli.proofs.Words.{◌≡◌, ◌≤◌, ◌<◌, ℕ, length, slice_index}
use Rattle.ncmpi_cli.proofs.watcher.read_beside.Given as goal

abbrev pub invariant-loop-number : goal.invariant-loop-number
invariant-loop-number g l =
    (length l.seen ≡ 16) × ((i j : ℕ) → i ≤ j → j < l.number → slice_index l.seen i ≤ slice_index l.seen j) × ((j : ℕ) → j < l.number → slice_index l.seen j ≤ length l.view.pairs)
