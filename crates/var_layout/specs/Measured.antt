-- That these are the measures of a header is said in one way, so a ghost field may say it. (own)
use Rattle.std.proofs.Props.{props}
use Rattle.nc_base.specs.declared.header.Header.{Header}
use Rattle.var_layout.specs.Measures.{AreMeasures}
use Rattle.var_layout.specs.declared.measures.Measures.{Measures}

pub AreMeasures-prop : (header : Header) (m : Measures) → IsProp (AreMeasures header m)
unfolding AreMeasures
AreMeasures-prop header m = Prim.hlevel props
