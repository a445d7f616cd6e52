-- Slab and vsize are those of the variable that stands there.
use Rattle.nc_classic_c.proofs.Words.{if_some_at, slice_get_within, arith, nat_tests}
use Rattle.serial_spec.specs.Layout as layout
use Rattle.nc_classic_c.proofs.variables.var_shown.Goals as goal

pub slab-requires-clause-there : goal.slab-requires-clause-there
slab-requires-clause-there c = slice_get_within c.args.header.now.vars c.args.number c.args.var.now c.requires.there

pub vsize-requires-clause-there : goal.vsize-requires-clause-there
vsize-requires-clause-there c = slice_get_within c.args.header.now.vars c.args.number c.args.var.now c.requires.there

pub returns : goal.returns
returns c = grind (arith, nat_tests, if_some_at, c.requires.there, c.slab.ensures.value, c.vsize.ensures.value)
