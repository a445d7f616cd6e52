-- How many values a call has. (own)
use Rattle.std.specs.Prelude.{ℕ, length}
use Rattle.nc_base.specs.declared.request.Values.{Values}
use Rattle.nc_base.specs.declared.request.Values.TheVariants.{Numbers, Text, Bits}

abbrev pub count_of : Values → ℕ
count_of (Numbers zs) = length zs
count_of (Text cs) = length cs
count_of (Bits ns) = length ns
