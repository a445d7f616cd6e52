-- One cut more, which lies in the hull and in its put.
use Rattle.put_exchange.proofs.Words.{◌∙◌, entry_in, Cut, arith, nat_tests}
use Rattle.put_exchange.proofs.MessageLaws.{laid_cut}
use Rattle.put_exchange.proofs.message.lay_cuts.Goals as goal

abbrev none : Cut
none = record { at = 0; slot = 0; from = 0; len = 0 }

pub lay_cut-requires-clause-cut : goal.lay_cut-requires-clause-cut
lay_cut-requires-clause-cut c = grind (arith, nat_tests, entry_in c.args.cuts.now c.loop-cut.cut-index none c.loop-cut-test.true, c.requires.cuts)

pub loop-cut-preserved : goal.loop-cut-preserved
loop-cut-preserved c = record {
  laid = laid_cut c.args.hull.at _ c.args.puts.now c.args.cuts.now none c.args.buf.now _ _ c.loop-cut-test.true
      c.loop-cut.invariant.laid c.lay_cut.ensures;
  long = c.lay_cut.auto.buf ∙ c.loop-cut.invariant.long;
}
