-- One holding more.
use Rattle.reference.proofs.Words.{filter, all_bytes, is_shared, filter-append, arith, nat_tests}
use Rattle.reference.proofs.GatherLaws.{next_left}
use Rattle.reference.proofs.PairSteps.{least_is, least_joined}
use Rattle.reference.proofs.pairs.least_shared.Goals as goal

pub loop-one-init : goal.loop-one-init
loop-one-init c = least_is (filter (is_shared c.args.held.now) (all_bytes c.args.held.now))

pub loop-one-preserved : goal.loop-one-preserved
loop-one-preserved c = grind (arith, nat_tests, filter, next_left, least_joined, filter-append, c.loop-one-test.true, c.one-item.is, c.in_ok-least.ensures, c.as_slice.ensures, c.loop-one.invariant)
