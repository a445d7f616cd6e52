use Rattle.nc_base.proofs.Words.{◌∙◌, arith, take_all, take_more, nat_tests}
use Rattle.nc_base.proofs.bits.wide_of_narrow.Goals as goal

pub loop-word-preserved : goal.loop-word-preserved
loop-word-preserved c = grind (arith, nat_tests, take_more, c.from.ensures, c.loop-word.invariant)

pub returns : goal.returns
returns c = c.loop-word.invariant ∙ take_all c.loop-word.word-index c.args.words.now c.loop-word-test.false
