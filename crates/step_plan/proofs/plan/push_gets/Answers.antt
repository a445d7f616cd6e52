-- The calls of one domain more.
use Rattle.step_plan.proofs.Words.{◌∙◌, ap, get_calls, DomainPlan}
use Rattle.step_plan.proofs.DomainLaws.{domain_more}
use Rattle.step_plan.proofs.plan.push_gets.Goals as goal

pub loop-domain-preserved : goal.loop-domain-preserved
loop-domain-preserved c =
    domain_more get_calls c.args.domains.now c.loop-domain.domain-index c.domain-item.result c.args.calls.now.items c.loop-domain.calls.items c.push_loads.new.calls.items c.as_slice.result.now
    c.loop-domain-test.true c.loop-domain.invariant c.in_ok-push_loads.ensures (c.as_slice.ensures ∙ ap (λ (d : DomainPlan). d.windows) c.domain-item.is)
