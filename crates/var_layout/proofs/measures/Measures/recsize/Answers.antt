use Rattle.var_layout.proofs.Words.{arith, AreMeasures}
use Rattle.var_layout.proofs.Soundness.{recsize_small}
use Rattle.var_layout.proofs.measures.Measures.recsize.Goals as goal

pub returns : goal.returns
unfolding AreMeasures
returns c = omega (arith, recsize_small c.args.header.now c.requires.sound, c.requires.measured.0)
