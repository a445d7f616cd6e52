use Rattle.script_definitions.proofs.Words.{◌≡◌, flat_map, range_with_len, ext_of, value_at}
use Rattle.script_definitions.proofs.attributes.external_bytes.Given as goal

abbrev pub invariant-loop-k : goal.invariant-loop-k
invariant-loop-k l = l.bytes.items ≡ flat_map (λ k. ext_of l.kind (value_at l.values k)) (range_with_len 0 l.k)
