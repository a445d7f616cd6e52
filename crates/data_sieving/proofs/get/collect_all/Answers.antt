-- Each entry's bytes lie in its blob.
use Rattle.data_sieving.proofs.Words.{no_entry, ◌+◌, ◌∙◌, refl, ap, List, map, get_or, take_all, entry_in, Owned, write_cells, of_slot, blob_at, buffer_cell, entry_ends, slot_below, arith, nat_tests}
use Rattle.data_sieving.proofs.CollectedSteps.{fit_as_long, as_long_twice, collected_more, collected_long}
use Rattle.data_sieving.proofs.get.collect_all.Goals as goal

pub loop-entry-init : goal.loop-entry-init
loop-entry-init c = record { each = λ k. refl; long = (refl, (λ k. refl)) }

pub collect_entry-requires-clause-end : goal.collect_entry-requires-clause-end
collect_entry-requires-clause-end c = entry_ends c.args.entries.now c.loop-entry.entry-index no_entry c.requires.ends c.loop-entry-test.true

pub collect_entry-requires-clause-filled : goal.collect_entry-requires-clause-filled
collect_entry-requires-clause-filled c =
    c.requires.filled (get_or c.args.entries.now c.loop-entry.entry-index no_entry) (entry_in c.args.entries.now c.loop-entry.entry-index no_entry c.loop-entry-test.true)

pub collect_entry-requires-clause-fit : goal.collect_entry-requires-clause-fit
collect_entry-requires-clause-fit c = grind (arith, nat_tests, fit_as_long, entry_in)

pub loop-entry-preserved : goal.loop-entry-preserved
loop-entry-preserved c =
    let inside = entry_in c.args.entries.now c.loop-entry.entry-index no_entry c.loop-entry-test.true in
    let fit = fit_as_long c.args.blobs.now c.loop-entry.blobs c.args.entries.now c.loop-entry.invariant.long c.requires.fit (get_or c.args.entries.now c.loop-entry.entry-index no_entry) inside in
    let room = slot_below c.loop-entry.blobs (get_or c.args.entries.now c.loop-entry.entry-index no_entry) (c.requires.filled (get_or c.args.entries.now c.loop-entry.entry-index no_entry) inside) fit in
    record {
      each = collected_more c.args.hull.at (c.args.hull.at + c.args.hull.len) c.args.buf.now c.args.blobs.now c.loop-entry.blobs c.collect_entry.new.blobs c.args.entries.now
          c.loop-entry.entry-index (get_or c.args.entries.now c.loop-entry.entry-index no_entry) no_entry c.loop-entry-test.true refl room c.collect_entry.ensures c.loop-entry.invariant.each;
      long = grind (arith, nat_tests, as_long_twice, collected_long, c.collect_entry.ensures);
    }

pub returns-clause-each : goal.returns-clause-each
returns-clause-each c = λ k.
    c.loop-entry.invariant.each k
    ∙ ap (λ (os : List Owned). write_cells (blob_at c.args.blobs.now k) (map (λ o. buffer_cell c.args.hull.at (c.args.hull.at + c.args.hull.len) c.args.buf.now o) (of_slot k os)))
    (take_all c.loop-entry.entry-index c.args.entries.now c.loop-entry-test.false)
