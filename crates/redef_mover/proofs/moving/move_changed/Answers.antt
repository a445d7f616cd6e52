-- A slab that is moved changes its place.
use Rattle.redef_mover.proofs.KeptLaws.{kept_of, outside_one}
use Rattle.redef_mover.proofs.moving.move_changed.Goals as goal

pub returns-clause-kept : goal.returns-clause-kept
returns-clause-kept g c = kept_of _ _ _ _ (λ x h. outside_one _ _ c.if-slab.false h) c.move_slab.ensures.kept
