use Rattle.script_definitions.proofs.Words.{◌≡◌, length, dim_ids, with_found}
use Rattle.script_definitions.proofs.vars.dim_ids.Given as goal

abbrev pub invariant-loop-name : goal.invariant-loop-name
invariant-loop-name l = with_found l.ids (dim_ids l.dims l.names) ≡ dim_ids l.dims l.fn.names

abbrev pub decreases-loop-name : goal.decreases-loop-name
decreases-loop-name l = length l.names
