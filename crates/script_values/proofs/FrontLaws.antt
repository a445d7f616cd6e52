-- The first word that is left.
use Rattle.std.proofs.lemmas.Bool.Decides.{nat_tests}
use native.Mathlib.Omega.{arith}
use Rattle.std.proofs.Common.{◌≡◌, ℕ, ◌+◌, suc, List, [], ◌∷◌, ◌++◌, length, true, Option, Some, Ok, ℤ}
use Rattle.nc_base.specs.declared.errors.ScriptKind.TheVariants as kind
use Rattle.nc_base.specs.declared.header.NcType.{NcType}
use Rattle.nc_base.specs.declared.request.Value.TheVariants as value
use Rattle.script_spec.specs.ScriptWords.{Word, number_of_text}
use Rattle.script_spec.specs.ScriptValues.{may_have, number_for, within_limits, each_value}
use Rattle.script_words.specs.Given.{first_for}

-- ---- the first word

module _ {A : Type 0} (f : List ℕ → Option A) where
  -- it is read, where one more is not too many
  pub first_found : (t : Option NcType) (before : ℕ) (found : List A) (ws after : List Word) (x : A) → first_for f ws ≡ Some (x, after)
      → within_limits t before (length found + 1) ≡ Ok tt → each_value f t before found ws ≡ each_value f t before (found ++ x ∷ []) after
  first_found t before found ws after x first few = grind (arith, nat_tests)

  pub first_shorter : (ws after : List Word) (x : A) → first_for f ws ≡ Some (x, after) → length ws ≡ suc (length after)
  first_shorter ws after x first = grind (arith, nat_tests)

pub may_stand : (t : Option NcType) (ws after : List Word) (z : ℤ) → first_for number_of_text ws ≡ Some (z, after) → may_have t (value.Number z) ≡ true
    → first_for (number_for t) ws ≡ Some (z, after)
may_stand t ws after z first may = grind (arith, nat_tests)
