-- The entries of a list by their places.
use Rattle.list_laws.proofs.Words.{◌≡◌, ℕ, zero, suc, ◌<◌, ◌≤◌, refl, ap, List, [], ◌∷◌, length, take, set, Some, arith, Bool, nat_lt, drop, replicate, sym, get_or, ◌+◌, ◌∙◌, ◌++◌, position_or_len, enumerate_from, slice_get, zip, ltb-true, cond_some, same_Some, cases_eq, nat_tests, slice_get_read, slice_get_within, position}
pub use Rattle.nc_base.proofs.ListPlaces.{get_left, get_right, take_next}

pub entry_below : {X : Type 0} (xs : List X) (k : ℕ) → k < length xs → (x : X) × (slice_get xs k ≡ Some x)
entry_below [] k l = absurd (omega arith)
entry_below (x ∷ xs) zero l = (x, refl)
entry_below (x ∷ xs) (suc k) l = entry_below xs k (omega arith)

-- one entry changed
pub entry_set : {X : Type 0} (xs : List X) (k : ℕ) (x y : X) → slice_get xs k ≡ Some x → slice_get (set xs k y) k ≡ Some y
entry_set [] k x y e = cc
entry_set (z ∷ xs) k x y e = grind (arith, nat_tests, entry_set xs)

pub entry_set_other : {X : Type 0} (xs : List X) (k j : ℕ) (y : X) → (j ≡ k → ⊥) → slice_get (set xs k y) j ≡ slice_get xs j
entry_set_other (x ∷ xs) k j y n = grind (arith, nat_tests, entry_set_other xs)
entry_set_other ys k j y n = refl

pub take_at_most : {X : Type 0} (n : ℕ) (xs : List X) → length (take n xs) ≤ n
take_at_most (suc n) (x ∷ xs) = let rest = take_at_most n xs in omega arith
take_at_most ys xs = omega arith

pub position_below : {A : Type 0} (p : A → Bool) (xs : List A) (n : ℕ) → position p xs ≡ Some n → n < length xs
position_below p xs n e = grind (arith, nat_tests, cond_some, nat_lt, ltb-true, position_or_len)

pub drop_at : {A : Type 0} (xs : List A) (k : ℕ) (x : A) → slice_get xs k ≡ Some x → drop k xs ≡ x ∷ drop (suc k) xs
drop_at [] k x h = cc
drop_at (y ∷ xs) k x h = grind (arith, nat_tests, drop_at xs)

pub first_same : {X : Type 0} (x y : X) (xs ys : List X) → x ∷ xs ≡ y ∷ ys → x ≡ y
first_same x y xs ys e = cc

pub set_own : {X : Type 0} (xs : List X) (r : ℕ) (x : X) → slice_get xs r ≡ Some x → set xs r x ≡ xs
set_own [] r x e = cc
set_own (z ∷ xs) r x e = grind (arith, nat_tests, set_own xs)

pub entry_replicate : {X : Type 0} (n r : ℕ) (x y : X) → slice_get (replicate n x) r ≡ Some y → y ≡ x
entry_replicate zero r x y e = absurd cc
entry_replicate {X} (suc n) r x y e = grind (arith, nat_tests, entry_replicate {X = X} n)

-- an element that is read by its index
pub entry_read : {X : Type 0} (xs : List X) (n : ℕ) (x : X) → n < length xs → x ≡ get_or xs n x → slice_get xs n ≡ Some x
entry_read xs n x h e = slice_get_read xs (length xs) n x refl h e

pub left_more : {X : Type 0} (old now : List X) (i : ℕ) (y : X) → ((r : ℕ) → i ≤ r → slice_get now r ≡ slice_get old r) → (r : ℕ) → i + 1 ≤ r
    → slice_get (set now i y) r ≡ slice_get old r
left_more old now i y left r l = entry_set_other now i r y (λ e. absurd (omega arith)) ∙ left r (omega arith)

pub each_more : {X : Type 0} (P : ℕ → X → X → Type 0) (old now : List X) (i : ℕ) (x y : X) → slice_get old i ≡ Some x → slice_get now i ≡ Some x → P i x y
    → ((r : ℕ) (a b : X) → r < i → slice_get old r ≡ Some a → slice_get now r ≡ Some b → P r a b)
    → (r : ℕ) (a b : X) → r < i + 1 → slice_get old r ≡ Some a → slice_get (set now i y) r ≡ Some b → P r a b
each_more {X} P old now i x y e f p each r a b l g h = grind (arith, nat_tests, cases_eq, entry_set_other, same_Some, entry_set, set)

-- an entry of one of two lists that are as long has its like in the other
pub entry_beside : {X Y : Type 0} (xs : List X) (ys : List Y) (q : ℕ) (x : X) → length xs ≡ length ys → slice_get xs q ≡ Some x
    → (y : Y) × (slice_get ys q ≡ Some y)
entry_beside xs ys q x l e = entry_below ys q (omega (arith, slice_get_within xs q x e))

pub entry_zip : {X Y : Type 0} (xs : List X) (ys : List Y) (q : ℕ) (x : X) (y : Y) → slice_get xs q ≡ Some x → slice_get ys q ≡ Some y
    → slice_get (zip xs ys) q ≡ Some (x, y)
entry_zip (x' ∷ xs) (y' ∷ ys) q x y e f = grind (arith, nat_tests, entry_zip xs ys)
entry_zip n ys q x y e f = cc

-- the entry of a numbered list
pub entry_numbered : {X : Type 0} (n : ℕ) (xs : List X) (k : ℕ) (x : X) → slice_get xs k ≡ Some x → slice_get (enumerate_from n xs) k ≡ Some (n + k, x)
entry_numbered n [] k x h = absurd cc
entry_numbered n (y ∷ xs) k x h = grind (arith, nat_tests, entry_numbered (n + 1) xs)

pub middle_at : {A : Type 0} (xs rest whole : List A) (x : A) → xs ++ x ∷ rest ≡ whole → slice_get whole (length xs) ≡ Some x
middle_at {A} xs rest whole x e = ap (λ (v : List A). slice_get v (length xs)) (sym e) ∙ get_right xs (x ∷ rest) 0 (length xs) (omega arith)
