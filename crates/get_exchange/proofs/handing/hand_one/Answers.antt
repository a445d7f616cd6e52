-- The windows of a domain lie on its part.
use Rattle.get_exchange.proofs.Words.{List, ap, subst, In, Told, domain_in, rules, arith, common_steps}
use Rattle.get_exchange.proofs.FetchLaws.{get_on}
use Rattle.get_exchange.proofs.handing.hand_one.Goals as goal

pub ask-requires-clause-on_part : goal.ask-requires-clause-on_part
ask-requires-clause-on_part g c κs within =
    let plan = c.args.plan.now in
    λ t m.
    get_on plan.list.now plan.cover.now plan.hints.now.cb_buffer (g.D.Disk.from c.args.part) (g.D.Disk.len c.args.part) _ c.requires.plan (c.requires.domain _ c.in-Some.is)
    t (subst (λ (ts : List Told). In ts t) c.in-Some-outfit_of.ensures.windows m)

pub returns-clause-given : goal.returns-clause-given
returns-clause-given g c = record {
  fresh = first_of (search rules, grind (arith, common_steps));
  of_part = first_of (search rules, grind (arith, common_steps));
  of_domain = ap (λ next. domain_in next) c.in-Some.is;
}
