use Rattle.var_layout.proofs.Words.{◌≡◌, map, take, slice_get, product, length_of, capped}
use Rattle.var_layout.proofs.sizes.elements_of_dims.Given as goal

abbrev pub invariant-loop-id : goal.invariant-loop-id
invariant-loop-id l = l.elements ≡ capped (product (map (λ id. length_of (slice_get l.header.dims id)) (take l.id-index l.ids)))
