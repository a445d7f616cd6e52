use Rattle.script_text.proofs.Words.{◌≡◌, ◌++◌, take, flat_map, shown_dim}
use Rattle.script_text.proofs.definitions.push_dims.Given as goal

abbrev pub invariant-loop-dim : goal.invariant-loop-dim
invariant-loop-dim l = l.out.items ≡ l.initial.out.items ++ flat_map shown_dim (take l.dim-index l.dims)
