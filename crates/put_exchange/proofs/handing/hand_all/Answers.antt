-- One part more.
use Rattle.put_exchange.proofs.Words.{IsPast, Owned, past_none, subst, sym, List, ◌≡◌, rules, arith, common_steps, handing_domain, handing_begun, handing_next, handing_room}
use Rattle.put_exchange.proofs.handing.hand_all.Goals as goal

pub loop-part-init : goal.loop-part-init
loop-part-init g c = record {
  handing = handing_begun _ _ _ c.args.domains.now c.args.parts.items _ _ c.args.shares.now c.requires.rooms (first_of (search rules, grind (arith, common_steps)));
  past = subst (λ (os : List Owned). IsPast 0 c.args.plan.now.list.now os) (sym c.as_slice-entries.ensures) (past_none 0 c.args.plan.now.list.now);
}

pub hand_one-handed-requires-clause-domain : goal.hand_one-handed-requires-clause-domain
hand_one-handed-requires-clause-domain g c κs within =
    handing_domain c.loop-part.invariant.handing c.in-Some.ensures.steps.0 g.D.Disk c.args.plan.now.list.now c.next_aggregator-next.result c.requires.domains
    c.next_aggregator-next.ensures

pub add_handed-requires : goal.add_handed-requires
add_handed-requires g c = handing_room c.loop-part.invariant.handing c.in-Some.ensures.steps.0 c.requires.rooms

pub loop-part-preserved : goal.loop-part-preserved
loop-part-preserved g c =
    let handed = c.hand_one-handed.ensures in
    record {
      handing = handing_next c.loop-part.invariant.handing c.in-Some.ensures.steps.0 c.add_handed.new.shares c.next_aggregator-next.result c.hand_one-handed.result c.next_aggregator-next.ensures c.add_handed.ensures
          handed.given handed.kept;
      past = handed.past;
    }

pub returns : goal.returns
returns g c =
    let s = c.loop-part.invariant.handing in
    let whole : c.loop-part.yielded ≡ c.args.parts.items = first_of (search (rules, s.all), grind (arith, common_steps)) in
    record { handed = rw whole at s.handed; back = s.back }
