use Rattle.var_layout.proofs.Words.{arith, nat_tests}
use Rattle.serial_spec.specs.Layout as layout
use Rattle.var_layout.proofs.Soundness.{if_there, slab_small}
use Rattle.var_layout.proofs.sizes.slab.Goals as goal

pub returns-clause-value : goal.returns-clause-value
returns-clause-value c = grind (arith, nat_tests, slab_small, if_there, c.slab_of.ensures)

pub returns-clause-small : goal.returns-clause-small
returns-clause-small c = grind (arith, nat_tests, slab_small, c.slab_of.ensures)
