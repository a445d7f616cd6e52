use Rattle.redef_mover.proofs.Words.{◌≡◌, take, map, dim_id}
use Rattle.redef_mover.proofs.extras.dim_ids.Given as goal

abbrev pub invariant-loop-name : goal.invariant-loop-name
invariant-loop-name l = l.ids ≡ map (dim_id l.header) (take l.name-index l.names)
