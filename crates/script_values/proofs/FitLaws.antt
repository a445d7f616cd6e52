-- The ranges of the types of whole numbers.
use Rattle.std.proofs.lemmas.Bool.Decides.{nat_tests}
use Rattle.std.proofs.Common.{◌≡◌, ℕ, ◌^◌, ℤ, pos, false, nat_lt, arith}
use lib.Signed.{◌<ℤ◌, ◌≤ℤ◌}
use Rattle.nc_base.specs.declared.request.Value.TheVariants as value
use Rattle.serial_spec.specs.ExternalForm.{fits_in, Signed, Unsigned}
use Rattle.script_values.specs.Numbers.{magnitude, signed_below, unsigned_below}

pub signed_fits : (size : ℕ) (z : ℤ) → fits_in Signed size (value.Number z) ≡ signed_below (256 ^ size) z
signed_fits size z = grind (arith, nat_tests)

pub unsigned_fits : (size : ℕ) (z : ℤ) → fits_in Unsigned size (value.Number z) ≡ unsigned_below (256 ^ size) z
unsigned_fits size z = grind (arith, nat_tests)

pub above_zero : (values : ℕ) (z : ℤ) → pos 0 ≤ℤ z → unsigned_below values z ≡ nat_lt (magnitude z) values
above_zero values z h = grind (arith, nat_tests)

pub below_zero : (values : ℕ) (z : ℤ) → z <ℤ pos 0 → unsigned_below values z ≡ false
below_zero values z h = grind (arith, nat_tests)
