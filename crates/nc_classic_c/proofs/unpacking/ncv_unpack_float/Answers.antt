-- Each pattern is one of a float.
use Rattle.nc_classic_c.proofs.Words.{length}
use Rattle.nc_classic_c.proofs.ValueLaws.{read_floats_fit}
use Rattle.nc_classic_c.proofs.unpacking.ncv_unpack_float.Goals as goal

pub unpack_patterns-requires : goal.unpack_patterns-requires
unpack_patterns-requires c = record { kept = read_floats_fit (length c.args.into.now) c.args.bytes.now (λ i. (c.type_inv.bytes i).fits) }
