-- The first item that two tests pass, as a loop comes to it.
use Rattle.var_layout.proofs.Words.{◌≡◌, ℕ, ◌+◌, ◌<◌, List, [], ◌∷◌, ◌++◌, length, take, drop, get_or, Bool, true, false, cond, Some, None, filter, find, drop_more, take-append-drop, filter_more, filter-append, find-append, arith, nat_tests, Header, Var}

-- the list, cut at the item
cut_at : {A : Type 0} (xs : List A) (k : ℕ) (d x : A) → k < length xs → get_or xs k d ≡ x → xs ≡ take k xs ++ x ∷ drop (k + 1) xs
cut_at xs k d x h e = grind (arith, nat_tests, take-append-drop, drop_more)

pub find_stops : {A : Type 0} (p q : A → Bool) (xs : List A) (k : ℕ) (d x : A) → k < length xs → get_or xs k d ≡ x
    → find q (filter p (take k xs)) ≡ None → p x ≡ true → q x ≡ true → find q (filter p xs) ≡ Some x
find_stops p q xs k d x h e none f g = grind (arith, nat_tests, cut_at xs k d x h e, filter-append, find-append)

pub find_goes_on : {A : Type 0} (p q : A → Bool) (xs : List A) (k : ℕ) (d x : A) → k < length xs → get_or xs k d ≡ x
    → find q (filter p (take k xs)) ≡ None → (p x ≡ true → q x ≡ false) → find q (filter p (take (k + 1) xs)) ≡ None
find_goes_on p q xs k d x h e none g = grind (arith, nat_tests, filter_more p xs k d h, find-append q (filter p (take k xs)) (cond (p x) (x ∷ []) []))

-- Where none is found, each item that passes the first test fails the second.
pub fails_at : {A : Type 0} (p q : A → Bool) (xs : List A) (k : ℕ) (d x : A) → k < length xs → get_or xs k d ≡ x
    → find q (filter p xs) ≡ None → p x ≡ true → q x ≡ false
fails_at {A} p q xs k d x h e none f = grind (arith, nat_tests, cut_at xs k d x h e, filter-append, find-append)

-- ---- a variable by its number

pub record Lies (header : Header) (k : ℕ) (v : Var) : Type 0 where
  pub within : k < length header.vars
  pub there : v ≡ get_or header.vars k v

-- the variable that a loop over a slice of them has come to
pub lies_in : (header : Header) (vs : List Var) (k : ℕ) (v : Var) → vs ≡ header.vars → k < length vs → v ≡ get_or vs k v → Lies header k v
lies_in header vs k v same within there = record { within = rw same at within; there = rw same at there }
