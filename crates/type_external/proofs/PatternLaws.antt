-- A pattern below one that fits a type fits it.
use Rattle.std.proofs.lemmas.Bool.Decides.{nat_tests}
use Rattle.std.proofs.Common.{◌≡◌, ℕ, ◌≤◌, true, arith}
use Rattle.nc_base.specs.declared.request.Value.TheVariants as value
use Rattle.serial_spec.specs.ExternalForm.{Class, fits_in}

pub bits_in : (c : Class) (size m n : ℕ) → m ≤ n → fits_in c size (value.Bits n) ≡ true → fits_in c size (value.Bits m) ≡ true
bits_in c size m n le h = grind (arith, nat_tests)
