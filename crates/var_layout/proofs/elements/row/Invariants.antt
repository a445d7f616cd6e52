use Rattle.var_layout.proofs.Words.{map, slice_get, length_of}
use Rattle.var_layout.proofs.ElementPlaces.{RowSoFar}
use Rattle.var_layout.proofs.elements.row.Given as goal

abbrev pub invariant-loop-k : goal.invariant-loop-k
invariant-loop-k l = RowSoFar (map (λ id. length_of (slice_get l.header.dims id)) l.ids) l.index l.k l.row
