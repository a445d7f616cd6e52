-- One domain more.
use Rattle.step_plan.proofs.Words.{get_or, arith, Extent, nat_tests}
use Rattle.step_plan.proofs.DomainLaws.{divided_all, divided_more, none_divided}
use Rattle.step_plan.proofs.domains.plan_each.Goals as goal

abbrev none : Extent
none = record { at = 0; len = 0 }

pub loop-number-init : goal.loop-number-init
loop-number-init c = rw c.new-plans.ensures.items (none_divided c.args.hints.now c.args.list.now c.args.cover.now c.args.domains.now)

pub domain_plans-requires : goal.domain_plans-requires
domain_plans-requires c = record { plan = rw c.as_slice.ensures c.requires.plan }

pub loop-number-preserved : goal.loop-number-preserved
loop-number-preserved c =
    let domain = get_or c.args.domains.now c.loop-number.number none in
    grind (arith, nat_tests, divided_more c.args.hints.now c.args.list.now c.args.cover.now c.args.domains.now c.loop-number.number none, c.loop-number-test.true, c.in_ok-domain_plans.ensures.told, c.as_slice.ensures, c.in_ok-domain_plans.ensures.shared, c.loop-number.invariant)

pub returns : goal.returns
returns c = grind (arith, nat_tests, divided_all, c.fitted.ensures, c.loop-number-test.false, c.loop-number.invariant)
