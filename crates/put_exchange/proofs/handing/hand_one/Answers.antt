-- The windows of a plan lie on the part, and fit the buffer.
use Rattle.put_exchange.proofs.Words.{List, Told, ap, subst, sym, length, AreDue, domain_in, rules, arith, common_steps}
use Rattle.put_exchange.proofs.WorkerLaws.{plan_due}
use Rattle.put_exchange.proofs.handing.hand_one.Goals as goal

pub ask-requires-clause-due : goal.ask-requires-clause-due
ask-requires-clause-due g c κs within =
    let outfit = c.in-Ok.ensures.outfit in
    subst (λ (ts : List Told). AreDue (g.D.Disk.from c.args.part) (g.D.Disk.len c.args.part) (length c.in-Ok.outfit.lines.buf.items) ts) (sym outfit.windows)
    (plan_due _ _ _ _ _ _ _ _ c.requires.plan (c.requires.domain _ c.in-Some.is) outfit.room)

pub returns-clause-given : goal.returns-clause-given
returns-clause-given g c = record {
  fresh = first_of (search rules, grind (arith, common_steps));
  of_part = first_of (search rules, grind (arith, common_steps));
  of_domain = ap (λ next. domain_in next) c.in-Some.is;
}
