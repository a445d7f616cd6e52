use Rattle.plan_text.proofs.Cited.{◌+◌, refl, arith, next_pushed, domain_lines}
use Rattle.plan_text.proofs.phases.push_domains.Goals as goal

pub loop-domain-preserved : goal.loop-domain-preserved
loop-domain-preserved c =
    next_pushed (domain_lines c.args.direction) c.args.out.now.items c.loop-domain.out.items c.push_domain.new.out.items c.args.domains.now
    c.loop-domain.domain-index (c.loop-domain.domain-index + 1) c.domain-item.result (omega arith) c.domain-item.is refl c.loop-domain.invariant c.in_ok-push_domain.ensures
