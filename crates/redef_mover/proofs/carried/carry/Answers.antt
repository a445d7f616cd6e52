-- The lists stand for all slabs, which rise below the new end.
use Rattle.redef_mover.proofs.Words.{refl, arith, on_err, nat_tests}
use Rattle.redef_mover.proofs.CutLaws.{not_begun}
use Rattle.redef_mover.proofs.CarryLaws.{carriable_spaced}
use Rattle.redef_mover.proofs.ListedLaws.{risen_up}
use Rattle.redef_mover.proofs.carried.carry.Goals as goal

pub rewrite-requires-clause-slabs : goal.rewrite-requires-clause-slabs
rewrite-requires-clause-slabs g c κs within =
    record {
      movable = grind (arith, nat_tests, risen_up, c.in_ok-slabs.ensures.all, c.requires.carriable.risen, c.requires.carriable.inside, c.requires.carriable.low, c.end_of-end.ensures, c.in_ok-buf.ensures.len, c.deref_mut.ensures.value, c.min.ensures);
      steps = c.in_ok-slabs.ensures.steps;
    }

pub rewrite-requires-clause-spaced : goal.rewrite-requires-clause-spaced
rewrite-requires-clause-spaced g c κs within =
    grind (arith, nat_tests, carriable_spaced, c.requires.carriable, c.in_ok-slabs.ensures.all, c.as_slice.ensures, c.in_ok-head.ensures, c.end_of-end.ensures)

pub rewrite-requires-clause-below : goal.rewrite-requires-clause-below
rewrite-requires-clause-below g c κs within = grind (arith, nat_tests, c.requires.carriable.low, c.end_of-end.ensures)

pub returns-clause-bytes : goal.returns-clause-bytes
returns-clause-bytes g c = rw (c.in_ok-slabs.ensures.all, c.as_slice.ensures, c.in_ok-head.ensures, c.end_of-end.ensures) at c.rewrite.ensures.bytes

pub returns-clause-refused : goal.returns-clause-refused
returns-clause-refused g c = rw (c.in_ok-slabs.ensures.all, c.as_slice.ensures, c.in_ok-head.ensures, c.end_of-end.ensures) at c.rewrite.ensures.refused

pub returns-clause-calls : goal.returns-clause-calls
returns-clause-calls g c = rw (c.in_ok-slabs.ensures.all, c.as_slice.ensures, c.in_ok-head.ensures, c.end_of-end.ensures) at c.rewrite.ensures.calls

pub returns-in_err-slabs-clause-refused : goal.returns-in_err-slabs-clause-refused
returns-in_err-slabs-clause-refused g c = on_err c.from_residual.result (not_begun c.args.old.now c.args.new.now _ _ refl)

pub returns-in_err-head-clause-refused : goal.returns-in_err-head-clause-refused
returns-in_err-head-clause-refused g c = on_err c.from_residual-in_err-head.result (not_begun c.args.old.now c.args.new.now _ _ refl)

pub returns-in_err-buf-clause-refused : goal.returns-in_err-buf-clause-refused
returns-in_err-buf-clause-refused g c = on_err c.from_residual-in_err-buf.result (not_begun c.args.old.now c.args.new.now _ _ refl)
