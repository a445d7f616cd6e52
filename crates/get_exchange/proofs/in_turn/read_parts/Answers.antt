-- One part more was read, or cut off.
use Rattle.get_exchange.proofs.Words.{◌∙◌, List, sym, subst, get_or, zip, Err, Ok, rules, arith, common_steps, slice_get-get_or, take_all, Rose, at_in, err_not_ok, HasReadParts, all_served_to, none_served, one_cut, one_failed, one_served, nat_tests}
use Rattle.get_exchange.proofs.CollectLaws.{fit_as_long}
use Rattle.get_exchange.proofs.FetchLaws.{GotBy, got_later}
use Rattle.get_exchange.proofs.PartReads.{got_kept, parts_next, parts_none}
use Rattle.get_exchange.proofs.in_turn.read_parts.Goals as goal

pub loop-place-init : goal.loop-place-init
loop-place-init g c = grind (arith, nat_tests, none_served, parts_none, c.new-ahead.ensures.past)

pub aggregator_at-aggregator-requires-clause-place : goal.aggregator_at-aggregator-requires-clause-place
aggregator_at-aggregator-requires-clause-place g c = omega (arith, c.loop-place.invariant.served.long, c.requires.domains.one_each)

pub collect_part-requires-clause-domain : goal.collect_part-requires-clause-domain
collect_part-requires-clause-domain g c κs within =
    let i = c.loop-place.place in
    let at = slice_get-get_or c.loop-place.parts i c.index-parts-place.result (omega arith) in
    c.requires.domains.each i _ c.aggregator_at-aggregator.result.domain (sym (c.loop-place.invariant.served.left i (omega arith)) ∙ at) c.aggregator_at-aggregator.ensures

pub collect_part-requires-clause-room : goal.collect_part-requires-clause-room
collect_part-requires-clause-room g c κs within = grind (arith, nat_tests, at_in, c.requires.room, c.aggregator_at-aggregator.ensures, c.loop-place.invariant.buf)

pub collect_part-requires-clause-fit : goal.collect_part-requires-clause-fit
collect_part-requires-clause-fit g c κs within = fit_as_long c.args.table.now c.loop-place.table c.args.plan.now.list.now c.loop-place.invariant.blobs c.requires.fit

pub loop-place-preserved : goal.loop-place-preserved
loop-place-preserved g c =
    let s = c.loop-place.invariant in
    let plan = c.args.plan.now in
    let parts = c.loop-place.parts in
    let i = c.loop-place.place in
    let part = get_or parts i c.index-parts-place.result in
    let domain = c.aggregator_at-aggregator.result.domain in
    let at = slice_get-get_or parts i c.index-parts-place.result (omega arith) in
    let done = c.in_ok-collect_part.ensures in
    record {
      served = one_served part c.collect_part.new.part domain at c.aggregator_at-aggregator.ensures (GotBy g.D.Disk plan (Ok (tt {0}))) s.served done.got;
      buf = c.collect_part.auto.buf ∙ s.buf;
      read = parts_next (λ d. g.D.Disk.from d) (λ d. g.D.Disk.held d) plan c.args.parts.now c.args.domains.now i part domain c.args.table.now c.loop-place.table c.collect_part.new.table
          (sym (s.served.left i (omega arith)) ∙ at) c.aggregator_at-aggregator.ensures s.read done.read;
      blobs = done.blobs ∙ s.blobs;
      past = c.reach-entries.ensures.past;
    }

pub returns-in_err-collect_part : goal.returns-in_err-collect_part
returns-in_err-collect_part g c =
    let served = c.loop-place.invariant.served in
    let parts = c.loop-place.parts in
    let part = get_or parts c.loop-place.place c.index-parts-place.result in
    let at = slice_get-get_or parts c.loop-place.place c.index-parts-place.result (omega arith) in
    let domain = c.aggregator_at-aggregator.result.domain in
    let is = c.aggregator_at-aggregator.ensures in
    let end = c.from_residual.result in
    let cut = c.from_residual.ensures.0 in
    record {
      got = one_cut part c.collect_part.new.part domain at is (GotBy g.D.Disk c.args.plan.now) (Ok (tt {0})) end (got_later g.D.Disk c.args.plan.now) (err_not_ok _ end cut) (got_kept g.D.Disk c.args.plan.now end cut) c.requires.domains.one_each
          served (got_later g.D.Disk c.args.plan.now (Err _) end _ _ (err_not_ok _ end cut) c.in_err-collect_part.ensures.got);
      read = err_not_ok _ end cut;
      blobs = c.in_err-collect_part.ensures.blobs ∙ c.loop-place.invariant.blobs;
      failed = λ f.
          let rose : Rose (g.D.Disk.faults part) (g.D.Disk.faults c.collect_part.new.part) = first_of (search rules, grind (arith, common_steps)) in
          one_failed part c.collect_part.new.part domain at is (λ a b. Rose (g.D.Disk.faults a) (g.D.Disk.faults b)) served rose;
    }

pub returns-clause-got : goal.returns-clause-got
returns-clause-got g c = all_served_to (GotBy g.D.Disk c.args.plan.now (Ok (tt {0}))) c.loop-place.invariant.served c.loop-place-test.false c.requires.domains.one_each

pub returns-clause-read : goal.returns-clause-read
returns-clause-read g c =
    subst (λ (ps : List g.row.D.Denot). HasReadParts (λ d. g.D.Disk.from d) (λ d. g.D.Disk.held d) c.args.plan.now (zip ps c.args.domains.now) c.args.table.now c.loop-place.table)
    (take_all c.loop-place.place c.args.parts.now c.loop-place-test.false) c.loop-place.invariant.read
