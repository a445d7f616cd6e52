use Rattle.rank_core.proofs.Words.{◌≡◌, flat_map, range_with_len}
use Rattle.rank_core.proofs.look.filling.repeated.Given as goal

abbrev pub invariant-loop-number : goal.invariant-loop-number
invariant-loop-number l = l.bytes.items ≡ flat_map (λ m. l.value) (range_with_len 0 l._number)
