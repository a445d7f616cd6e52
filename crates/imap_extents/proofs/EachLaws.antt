-- One value more in external form.
use Rattle.imap_extents.proofs.Cited.{◌≡◌, ℕ, ◌+◌, ◌<◌, ◌∙◌, ap, List, ◌++◌, ◌||◌, length, get_or, take, Bool, false, flat_map, list_any, flat_map_more, list_any_more, take_more}

pub forms_added : {A : Type 0} (form : A → List ℕ) (old now new : List ℕ) (xs : List A) (i : ℕ) (d : A) → i < length xs
    → now ≡ old ++ flat_map form (take i xs) → new ≡ now ++ form (get_or xs i d) → new ≡ old ++ flat_map form (take (i + 1) xs)
forms_added form old now new xs i d h before added = rw (take_more xs i d h, ← flat_map_more form old (take i xs) (get_or xs i d), ← before) added

pub fits_added : {A : Type 0} (unfit : A → Bool) (xs : List A) (i : ℕ) (d : A) → i < length xs
    → list_any unfit (take i xs) ≡ false → unfit (get_or xs i d) ≡ false → list_any unfit (take (i + 1) xs) ≡ false
fits_added unfit xs i d h before now = list_any_more unfit xs i d h ∙ ap (λ (b : Bool). b || unfit (get_or xs i d)) before ∙ now
