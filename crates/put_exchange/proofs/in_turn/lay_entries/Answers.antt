-- Each entry has its bytes in its post.
use Rattle.put_exchange.proofs.Words.{◌+◌, ◌∙◌, Owned, entry_in, source_of, arith, nat_tests}
use Rattle.put_exchange.proofs.TakenLaws.{entries_more}
use Rattle.put_exchange.proofs.in_turn.lay_entries.Goals as goal

abbrev none : Owned
none = record { extent = record { at = 0; len = 0 }; rank = 0; request = 0; slot = 0; from = 0 }

pub lay_piece-requires-clause-piece : goal.lay_piece-requires-clause-piece
lay_piece-requires-clause-piece c = grind (arith, nat_tests, entry_in c.args.entries.now, c.requires.pieces, c.loop-entry-test.true)

pub loop-entry-preserved : goal.loop-entry-preserved
loop-entry-preserved c =
    let i = c.loop-entry.entry-index in
    let list = c.args.entries.now in
    let test = c.loop-entry-test.true in
    record {
      laid = entries_more (source_of c.args.batches.now) c.args.hull.at (c.args.hull.at + c.args.hull.len) i list none c.args.buf.now c.loop-entry.buf c.lay_piece.new.buf test
          c.loop-entry.invariant.laid c.lay_piece.ensures;
      long = c.lay_piece.auto.buf ∙ c.loop-entry.invariant.long;
    }
