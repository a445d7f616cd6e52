-- The domains of the entries of the gets.
use Rattle.step_plan.proofs.DomainLaws.{ok_so}
use Rattle.step_plan.proofs.meeting.get_domains.Goals as goal

pub returns : goal.returns
returns c = ok_so c.collective_domains.result (λ domains h. record { list = c.in_ok-list.list; got = c.in_ok-list.ensures; plans = h }) c.collective_domains.ensures
