use Rattle.var_layout.proofs.Words.{arith}
use Rattle.var_layout.proofs.Soundness.{recsize_small}
use Rattle.var_layout.proofs.record.recsize.Goals as goal

pub returns : goal.returns
returns c = omega (arith, recsize_small c.args.header.now c.requires.sound, c.recsize_of.ensures)
