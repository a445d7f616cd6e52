-- Each pattern is one of a float.
use Rattle.nc_classic_c.proofs.ValueLaws.{floats_fit}
use Rattle.nc_classic_c.proofs.packing.ncv_pack_float.Goals as goal

pub pack_patterns-requires : goal.pack_patterns-requires
pack_patterns-requires c = record { fit = floats_fit c.args.values.now (λ i. (c.type_inv.values i).fits) }
