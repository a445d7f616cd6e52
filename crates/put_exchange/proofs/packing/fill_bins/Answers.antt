-- One entry more.
use Rattle.put_exchange.proofs.Words.{length, arith, Owned, entry_in, told_window, entry_ends, binned, nat_tests}
use Rattle.put_exchange.proofs.PackLaws.{bins_long, entry_binned, entry_kept}
use Rattle.put_exchange.proofs.packing.fill_bins.Goals as goal

abbrev none : Owned
none = record { extent = record { at = 0; len = 0 }; rank = 0; request = 0; slot = 0; from = 0 }

pub has_piece-requires-clause-end : goal.has_piece-requires-clause-end
has_piece-requires-clause-end c = entry_ends c.args.turn.now.entries.now c.loop-entry.entry-index none c.requires.ends c.loop-entry-test.true

pub cut_of-requires-clause-end : goal.cut_of-requires-clause-end
cut_of-requires-clause-end c = entry_ends c.args.turn.now.entries.now c.loop-entry.entry-index none c.requires.ends c.loop-entry-test.true

pub cut_of-requires-clause-from : goal.cut_of-requires-clause-from
cut_of-requires-clause-from c = grind (arith, nat_tests, entry_in, c.requires.pieces, c.post_bytes-bytes.type_inv.0, c.post_bytes-bytes.ensures)

pub post_bytes-bytes-requires : goal.post_bytes-bytes-requires
post_bytes-bytes-requires c = grind (arith, nat_tests, entry_in c.args.turn.now.entries.now c.loop-entry.entry-index none c.loop-entry-test.true, c.requires.pieces)

pub bounds-bins-entry : goal.bounds-bins-entry
bounds-bins-entry c = grind (arith, nat_tests, entry_in, bins_long, c.requires.below, c.loop-entry.invariant.binned)

pub loop-entry-preserved : goal.loop-entry-preserved
loop-entry-preserved c =
    let n = length c.args.bins.now in
    grind (arith, nat_tests, entry_in c.args.turn.now.entries.now c.loop-entry.entry-index none c.loop-entry-test.true, entry_binned n c.loop-entry.entry-index c.args.turn.now.entries.now none (told_window c.args.turn.now.window), entry_kept n c.loop-entry.entry-index c.args.turn.now.entries.now none (told_window c.args.turn.now.window), c.requires.below, c.has_piece.ensures, c.loop-entry.invariant.binned)
