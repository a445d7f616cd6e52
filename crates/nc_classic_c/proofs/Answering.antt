-- The numbers that calls answer.
use Rattle.nc_classic_c.proofs.Words.{◌≡◌, ap, ◌∙◌, ℤ, to_z-of_z, Refusal, number_of, arith, nat_tests}
use mir.Syntax.{w32}
use mir.Val.{to_z, of_z, SFits}

number_small : (r : Refusal) → SFits w32 (number_of r)
number_small r = grind (arith, nat_tests)

-- a refusal's number that is returned
pub number_kept : (n : ℤ) (r : Refusal) → n ≡ number_of r → to_z w32 (of_z w32 n) ≡ number_of r
number_kept n r h = ap (λ (z : ℤ). to_z w32 (of_z w32 z)) h ∙ to_z-of_z w32 (number_of r) (number_small r)
