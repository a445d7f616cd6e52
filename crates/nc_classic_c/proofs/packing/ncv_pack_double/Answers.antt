-- Each pattern is one of a double.
use Rattle.nc_classic_c.proofs.ValueLaws.{doubles_fit}
use Rattle.nc_classic_c.proofs.packing.ncv_pack_double.Goals as goal

pub pack_patterns-requires : goal.pack_patterns-requires
pack_patterns-requires c = record { fit = doubles_fit c.args.values.now (λ i. (c.type_inv.values i).fits) }
