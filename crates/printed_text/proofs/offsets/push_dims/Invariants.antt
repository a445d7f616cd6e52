use Rattle.printed_text.proofs.Cited.{◌≡◌, ◌++◌, take, flat_map, dim_length_line}
use Rattle.printed_text.proofs.offsets.push_dims.Given as goal

abbrev pub invariant-loop-dim : goal.invariant-loop-dim
invariant-loop-dim l = l.out.items ≡ l.initial.out.items ++ flat_map (dim_length_line l.records) (take l.dim-index l.dims)
