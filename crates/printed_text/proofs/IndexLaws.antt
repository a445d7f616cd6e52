-- An index that is made of a list from its end: an item comes before those that it has.
use Rattle.printed_text.proofs.Cited.{◌≡◌, ℕ, ◌+◌, ◌-◌, ◌<◌, List, [], ◌∷◌, length, drop, get_or, Bool, true, false, cond, Option, Some, refl, ap, arith, option_map}
use Rattle.std.proofs.lemmas.List.{drop_all, drop_more}

-- what is known of no item
pub at_end : {A : Type 0} (P : List A → Type 0) (xs : List A) → P [] → P (drop (length xs) xs)
at_end P xs h = rw (drop_all (length xs) xs (omega arith)) h

-- one item more
pub one_earlier : {A : Type 0} (P : List A → Type 0) (xs : List A) (k : ℕ) (x : A) → 0 < k → k - 1 < length xs → x ≡ get_or xs (k - 1) x → P (x ∷ drop k xs) → P (drop (k - 1) xs)
one_earlier P xs k x some within here h =
    let next : k - 1 + 1 ≡ k = omega arith in
    rw (drop_more xs (k - 1) x within, next, ← here) h

-- what is told of the first item, or of those behind it
pub first_told : {A B : Type 0} (f : A → B) (t : Bool) (x : A) (y : B) (o : Option A) → y ≡ f x → cond t (Some y) (option_map f o) ≡ option_map f (cond t (Some x) o)
first_told {A} {B} f true x y o e = ap (λ (z : B). Some z) e
first_told f false x y o e = refl
