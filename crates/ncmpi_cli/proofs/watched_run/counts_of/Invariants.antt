use Rattle.ncmpi_cli.proofs.Words.{◌≡◌, take, seen_counts}
use Rattle.ncmpi_cli.proofs.watched_run.counts_of.Given as goal

abbrev pub invariant-loop-pair : goal.invariant-loop-pair
invariant-loop-pair l = l.counts.items ≡ seen_counts (take l.pair-index l.pairs)
