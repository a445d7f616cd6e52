-- The shares of one domain more.
use Rattle.plan_sums.proofs.CellLaws.{domain_more}
use Rattle.plan_sums.proofs.cells.push_served.Goals as goal

pub loop-domain-preserved : goal.loop-domain-preserved
loop-domain-preserved c =
    domain_more c.args.aggregator c.args.domains.now c.loop-domain.domain-index c.domain-item.result c.args.shares.now.items c.loop-domain.shares.items c.push_domain.new.shares.items
    c.loop-domain-test.true c.domain-item.is c.loop-domain.invariant c.in_ok-push_domain.ensures
