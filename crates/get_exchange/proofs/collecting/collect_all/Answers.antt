-- Each entry's bytes lie in its blob.
use Rattle.get_exchange.proofs.Words.{◌+◌, ◌∙◌, refl, ap, List, map, get_or, arith, take_all, entry_in, Owned, write_cells, buffer_cell, entry_ends, blob_at, of_request, nat_tests}
use Rattle.get_exchange.proofs.CollectLaws.{fit_as_long, collected_more, collected_long}
use Rattle.get_exchange.proofs.collecting.collect_all.Goals as goal

abbrev none : Owned
none = record { extent = record { at = 0; len = 0 }; rank = 0; request = 0; slot = 0; from = 0 }

pub loop-entry-init : goal.loop-entry-init
loop-entry-init c = record { each = λ r s. refl; long = refl }

pub collect_get-requires-clause-end : goal.collect_get-requires-clause-end
collect_get-requires-clause-end c = entry_ends c.args.entries.now c.loop-entry.entry-index none c.requires.can.ends c.loop-entry-test.true

pub collect_get-requires-clause-filled : goal.collect_get-requires-clause-filled
collect_get-requires-clause-filled c = c.requires.can.filled (get_or c.args.entries.now c.loop-entry.entry-index none) (entry_in c.args.entries.now _ none c.loop-entry-test.true)

pub collect_get-requires-clause-fit : goal.collect_get-requires-clause-fit
collect_get-requires-clause-fit c = grind (arith, nat_tests, fit_as_long, entry_in, c.requires.can.fit)

pub loop-entry-preserved : goal.loop-entry-preserved
loop-entry-preserved c =
    let entry = get_or c.args.entries.now c.loop-entry.entry-index none in
    let inside = entry_in c.args.entries.now c.loop-entry.entry-index none c.loop-entry-test.true in
    let fit = fit_as_long c.args.table.now c.loop-entry.table c.args.entries.now c.loop-entry.invariant.long c.requires.can.fit entry inside in
    let filled = c.requires.can.filled entry inside in
    record {
      each = collected_more c.args.hull.at (c.args.hull.at + c.args.hull.len) c.args.buf.now c.args.table.now c.loop-entry.table c.collect_get.new.table c.args.entries.now
          c.loop-entry.entry-index entry none c.loop-entry-test.true refl (omega arith) c.collect_get.ensures c.loop-entry.invariant.each;
      long = grind (arith, nat_tests, collected_long, c.collect_get.ensures, c.loop-entry.invariant.long);
    }

pub returns-clause-each : goal.returns-clause-each
returns-clause-each c = λ r s. c.loop-entry.invariant.each r s
    ∙ ap (λ (os : List Owned). write_cells (blob_at c.args.table.now r s) (map (λ o. buffer_cell c.args.hull.at (c.args.hull.at + c.args.hull.len) c.args.buf.now o) (of_request r s os)))
    (take_all c.loop-entry.entry-index c.args.entries.now c.loop-entry-test.false)
