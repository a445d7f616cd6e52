-- Room for values, and what a word gives that may stand there.
use Rattle.script_spelling.proofs.Words.{◌≡◌, ℕ, ◌+◌, ◌≤◌, Bool, true, false, cond, ◌&&◌, Option, Some, None, is_some, Ok, arith, and_from, NcType, most_elements, most_values, within_limits, nat_tests, cond_some}
use Rattle.script_spelling.proofs.Steps.{looked}
use Rattle.nc_base.specs.declared.request.Value.TheVariants as value

pub record HasRoom (t : Option NcType) (before n : ℕ) : Type 0 where
  pub all : before + n ≤ most_values
  pub own : is_some t ≡ false → n ≤ most_elements

pub room_again : (t : Option NcType) (before n : ℕ) → HasRoom t before n → within_limits t before n ≡ Ok tt
room_again t before n r = grind (arith, nat_tests)

pub less_room : (t : Option NcType) (before m n : ℕ) → m ≤ n → HasRoom t before n → HasRoom t before m
less_room t before m n le r = grind (arith, nat_tests)

pub fit_from : {A : Type 0} (o : Option A) (may low : A → Bool) (x : A) → ((y : A) → o ≡ Some y → low y ≡ true) → elim o as (λ t. Option A) [ None ↦ None | Some y ↦ cond (may y) (Some y) None ] ≡ Some x → (low x && may x) ≡ true
fit_from o may low x each h = grind (arith, nat_tests, looked, cond_some, and_from)
