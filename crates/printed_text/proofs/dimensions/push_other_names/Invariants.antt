use Rattle.printed_text.proofs.Cited.{◌≡◌, ◌++◌, map, take, flat_map, dim_name}
use Rattle.printed_text.proofs.dimensions.push_other_names.Given as goal

abbrev pub invariant-loop-id : goal.invariant-loop-id
invariant-loop-id l = l.out.items ≡ l.initial.out.items ++ flat_map (λ name. l.between ++ name) (map (dim_name l.header) (take l.id-index l.ids))
