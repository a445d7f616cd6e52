-- The domains are those of the covered bytes.
use Rattle.step_plan.proofs.Words.{cover_ends, lawful, arith, nat_tests}
use Rattle.collective_round.proofs.PlanLaws.{got_plan}
use Rattle.step_plan.proofs.DomainLaws.{all_divided, ok_so}
use Rattle.step_plan.proofs.domains.collective_domains.Goals as goal

pub domains_of-requires-clause-ends : goal.domains_of-requires-clause-ends
domains_of-requires-clause-ends c =
    rw c.as_slice-2.ensures (cover_ends c.in_ok-cover.cover c.args.list.now c.in_ok-cover.ensures.apart (rw c.as_slice.ensures at c.in_ok-cover.ensures.bytes) c.requires.sorted.ends)

pub plan_each-requires-clause-plan : goal.plan_each-requires-clause-plan
plan_each-requires-clause-plan c = grind (arith, nat_tests, got_plan, lawful, c.in_ok-cover.ensures.apart, c.as_slice.ensures, c.in_ok-cover.ensures.bytes)

pub returns : goal.returns
returns c = ok_so c.plan_each.result (λ plans h.
    all_divided c.args.hints.now c.args.list.now c.in_ok-cover.cover c.in_ok-domains.domains.items plans c.in_ok-cover.ensures.apart (rw c.as_slice.ensures at c.in_ok-cover.ensures.bytes)
    (rw c.as_slice-2.ensures at c.in_ok-domains.ensures.domains) (rw c.as_slice-2.ensures at c.in_ok-domains.ensures.windows) (rw c.deref.ensures.value at h)) c.plan_each.ensures
