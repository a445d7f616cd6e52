use Rattle.plan_text.proofs.Cited.{◌≡◌, ◌++◌, take, flat_map, domain_lines}
use Rattle.plan_text.proofs.phases.push_domains.Given as goal

abbrev pub invariant-loop-domain : goal.invariant-loop-domain
invariant-loop-domain l = l.out.items ≡ l.initial.out.items ++ flat_map (domain_lines l.direction) (take l.domain-index l.domains)
