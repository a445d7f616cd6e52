use Rattle.rank_core.proofs.Words.{◌≡◌, range_with_len}
use Rattle.rank_core.proofs.names.all_places.Given as goal

abbrev pub invariant-loop-place : goal.invariant-loop-place
invariant-loop-place l = l.places.items ≡ range_with_len 0 l.place
