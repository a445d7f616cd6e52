-- The slabs of the variables so far that are of the kind.
use Rattle.redef_mover.proofs.Words.{◌≡◌, length, map, take, zip, is_record, first_slab, is_kind, slab_of, filter}
use Rattle.redef_mover.proofs.slabs.first_slabs.Given as goal

abbrev pub invariant-loop-number : goal.invariant-loop-number
invariant-loop-number l =
    map slab_of l.slabs.items
    ≡ map (first_slab l.old) (filter (λ p. is_kind l.records (is_record l.old p.0)) (take (length l.yielded) (zip l.old.vars l.new.vars)))
