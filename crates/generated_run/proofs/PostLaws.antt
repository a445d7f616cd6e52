-- The regions that a rank posts.
use Rattle.generated_run.proofs.Words.{◌≡◌, ℕ, List, [], ◌∷◌, Option, Some, None, refl, ap, option_map, option_copied, Bor, Call, Given, FindsGiven, elements_given, posted_elements, posted_given, arith, nat_tests}
use Rattle.std.specs.HashMap.{HashMap, IsEmpty, Updates}
use Rattle.std.specs.Map.{lookup}
use Rattle.std.specs.Prelude.{nat_eq}
use Rattle.std.specs.declared.hash.FoldHasher.{FoldHasher}
use Rattle.std.specs.declared.hash.BuildHasherDefault.{BuildHasherDefault}
use Rattle.nc_base.specs.declared.request.Call.TheVariants as call
use Rattle.nc_base.specs.declared.request.PostKind.{PostKind}
use Rattle.nc_base.specs.declared.request.Values.{Values}

-- of the region that was found, if any
abbrev pub elements_of : Option Given → ℕ
elements_of None = 0
elements_of (Some g) = elements_given g

posted_are : (calls : List Call) (id : ℕ) → posted_elements calls id ≡ elements_of (posted_given calls id)
posted_are (c ∷ calls) id = grind (arith, nat_tests, posted_are calls id)
posted_are [] id = refl

pub found_are : (calls : List Call) (id : ℕ) (found : Option (Bor (Bor Given))) (kept : Option (Bor Given)) → option_copied found ≡ kept → option_map (λ (g : Bor Given). g.now) kept ≡ posted_given calls id
    → elements_of (option_map (λ (g : Bor Given). g.now) (option_copied found)) ≡ posted_elements calls id
found_are calls id found kept e f = grind (arith, nat_tests, posted_are)

-- ---- an index of posts

pub posts_none : (index : HashMap ℕ (Bor Given) (BuildHasherDefault FoldHasher)) → IsEmpty index → FindsGiven [] index
posts_none index none q = ap (λ (es : List (ℕ × Bor Given)). option_map (λ (g : Bor Given). g.now) (lookup (nat_eq q) es)) none

pub post_put : (c : Call) (own : ℕ) (kind : PostKind) (name : List ℕ) (given : Given) (values : Values) (old new : HashMap ℕ (Bor Given) (BuildHasherDefault FoldHasher)) (lent : Bor Given)
    → c ≡ call.Post own kind name given values → lent.now ≡ given
    → Updates nat_eq old new own (Some lent) → (calls : List Call) → FindsGiven calls old → FindsGiven (c ∷ calls) new
post_put c own kind name given values old new lent is told updates calls known q = grind (arith, nat_tests)
