-- One part more was served, or cut off.
use Rattle.put_exchange.proofs.Words.{◌∙◌, refl, sym, get_or, Err, Ok, rules, arith, common_steps, slice_get-get_or, Rose, at_in, err_not_ok, all_served_to, none_served, one_cut, one_failed, one_served, nat_tests}
use Rattle.put_exchange.proofs.PutLaws.{PutBy, put_kept, put_later}
use Rattle.put_exchange.proofs.in_turn.put_parts.Goals as goal

pub loop-place-init : goal.loop-place-init
loop-place-init g c = record { served = none_served (PutBy g.D.Disk c.args.plan.now (Ok (tt {0}))) c.args.domains.now c.args.parts.now; buf = refl }

pub aggregator_at-aggregator-requires-clause-place : goal.aggregator_at-aggregator-requires-clause-place
aggregator_at-aggregator-requires-clause-place g c = omega (arith, c.loop-place.invariant.served.long, c.requires.domains.one_each)

pub lay_in_turn-requires-clause-domain : goal.lay_in_turn-requires-clause-domain
lay_in_turn-requires-clause-domain g c κs within =
    let i = c.loop-place.place in
    let at = slice_get-get_or c.loop-place.parts i c.index-parts-place.result (omega arith) in
    c.requires.domains.each i _ c.aggregator_at-aggregator.result.domain (sym (c.loop-place.invariant.served.left i (omega arith)) ∙ at) c.aggregator_at-aggregator.ensures

pub lay_in_turn-requires-clause-room : goal.lay_in_turn-requires-clause-room
lay_in_turn-requires-clause-room g c κs within = grind (arith, nat_tests, at_in, c.requires.room, c.aggregator_at-aggregator.ensures, c.loop-place.invariant.buf)

pub loop-place-preserved : goal.loop-place-preserved
loop-place-preserved g c =
    let parts = c.loop-place.parts in
    let part = get_or parts c.loop-place.place c.index-parts-place.result in
    let at = slice_get-get_or parts c.loop-place.place c.index-parts-place.result (omega arith) in
    record {
      served = one_served part c.lay_in_turn.new.part c.aggregator_at-aggregator.result.domain at c.aggregator_at-aggregator.ensures (PutBy g.D.Disk c.args.plan.now (Ok (tt {0}))) c.loop-place.invariant.served
          c.in_ok-lay_in_turn.ensures.put;
      buf = c.lay_in_turn.auto.buf ∙ c.loop-place.invariant.buf;
    }

pub returns-in_err-lay_in_turn : goal.returns-in_err-lay_in_turn
returns-in_err-lay_in_turn g c =
    let served = c.loop-place.invariant.served in
    let parts = c.loop-place.parts in
    let part = get_or parts c.loop-place.place c.index-parts-place.result in
    let at = slice_get-get_or parts c.loop-place.place c.index-parts-place.result (omega arith) in
    let domain = c.aggregator_at-aggregator.result.domain in
    let is = c.aggregator_at-aggregator.ensures in
    let end = c.from_residual.result in
    let cut = c.from_residual.ensures.0 in
    record {
      put = one_cut part c.lay_in_turn.new.part domain at is (PutBy g.D.Disk c.args.plan.now) (Ok (tt {0})) end (put_later g.D.Disk c.args.plan.now) (err_not_ok _ end cut) (put_kept g.D.Disk c.args.plan.now end cut) c.requires.domains.one_each
          served (put_later g.D.Disk c.args.plan.now (Err _) end _ _ (err_not_ok _ end cut) c.in_err-lay_in_turn.ensures.put);
      failed = λ f.
          let rose : Rose (g.D.Disk.faults part) (g.D.Disk.faults c.lay_in_turn.new.part) = first_of (search rules, grind (arith, common_steps)) in
          one_failed part c.lay_in_turn.new.part domain at is (λ a b. Rose (g.D.Disk.faults a) (g.D.Disk.faults b)) served rose;
    }

pub returns-clause-put : goal.returns-clause-put
returns-clause-put g c = all_served_to (PutBy g.D.Disk c.args.plan.now (Ok (tt {0}))) c.loop-place.invariant.served c.loop-place-test.false c.requires.domains.one_each
