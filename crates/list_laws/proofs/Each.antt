-- What holds of each entry of a list, and the tests that tell it.
use Rattle.list_laws.proofs.Words.{◌≡◌, ℕ, suc, List, [], ◌∷◌, ◌++◌, drop, map, Bool, true, false, refl, Some, ◌||◌, inl, inr, ◌⊎◌, ◌∙◌, AllByRecursion, AllZip, list_any, list_all, flat_map, and_from, or_from, list_all-append, arith, nat_tests, slice_get}
use Rattle.list_laws.proofs.Truth.{holds_or_not, and_first, and_second, or_first_false, or_second_false}

pub each_weaker : {A : Type 0} (P Q : A → Type 0) → ((x : A) → P x → Q x) → (xs : List A) → AllByRecursion P xs → AllByRecursion Q xs
each_weaker P Q f [] h = tt
each_weaker P Q f (x ∷ xs) h = (f x h.0, each_weaker P Q f xs h.1)

pub each_append : {A : Type 0} (P : A → Type 0) (xs ys : List A) → AllByRecursion P xs → AllByRecursion P ys → AllByRecursion P (xs ++ ys)
each_append P [] ys h k = k
each_append P (x ∷ xs) ys h k = (h.0, each_append P xs ys h.1 k)

pub each_push : {A : Type 0} (P : A → Type 0) (xs : List A) (x : A) → AllByRecursion P xs → P x → AllByRecursion P (xs ++ x ∷ [])
each_push P xs x h p = each_append P xs (x ∷ []) h (p, tt)

pub each_map : {A B : Type 0} (P : B → Type 0) (f : A → B) (xs : List A) → AllByRecursion (λ x. P (f x)) xs → AllByRecursion P (map f xs)
each_map P f [] h = tt
each_map P f (x ∷ xs) h = (h.0, each_map P f xs h.1)

pub each_flat_map : {A B : Type 0} (P : B → Type 0) (f : A → List B) (xs : List A) → AllByRecursion (λ x. AllByRecursion P (f x)) xs → AllByRecursion P (flat_map f xs)
each_flat_map P f [] h = tt
each_flat_map P f (x ∷ xs) h = each_append P (f x) (flat_map f xs) h.0 (each_flat_map P f xs h.1)

pub each_later : {A : Type 0} (P : A → Type 0) (xs : List A) → AllByRecursion P xs → AllByRecursion P (drop 1 xs)
each_later P ys h = grind (arith, nat_tests)

pub each_at : {A : Type 0} (P : A → Type 0) (xs : List A) (k : ℕ) (x : A) → AllByRecursion P xs → slice_get xs k ≡ Some x → P x
each_at P [] k x h e = absurd cc
each_at P (y ∷ ys) k x h e = grind (arith, nat_tests, each_at P ys)

-- ---- tests of all entries

pub each_passes : {A : Type 0} (test : A → Bool) (xs : List A) → AllByRecursion (λ x. test x ≡ true) xs → list_all test xs ≡ true
each_passes test [] h = refl
each_passes test (x ∷ xs) h = and_from (test x) (list_all test xs) h.0 (each_passes test xs h.1)

pub passes_each : {A : Type 0} (test : A → Bool) (xs : List A) → list_all test xs ≡ true → AllByRecursion (λ x. test x ≡ true) xs
passes_each test [] h = tt
passes_each test (x ∷ xs) h = (and_first (test x) (list_all test xs) h, passes_each test xs (and_second (test x) (list_all test xs) h))

pub all_joined : {A : Type 0} (p : A → Bool) (xs ys : List A) → list_all p xs ≡ true → list_all p ys ≡ true → list_all p (xs ++ ys) ≡ true
all_joined p xs ys a b = list_all-append p xs ys ∙ and_from _ _ a b

pub each_fails : {A : Type 0} (test : A → Bool) (xs : List A) → AllByRecursion (λ x. test x ≡ false) xs → list_any test xs ≡ false
each_fails test [] h = refl
each_fails test (x ∷ xs) h = or_from (test x) (list_any test xs) h.0 (each_fails test xs h.1)

pub fails_each : {A : Type 0} (test : A → Bool) (xs : List A) → list_any test xs ≡ false → AllByRecursion (λ x. test x ≡ false) xs
fails_each test [] h = tt
fails_each test (x ∷ xs) h = (or_first_false (test x) (list_any test xs) h, fails_each test xs (or_second_false (test x) (list_any test xs) h))

pub passes_at : {X : Type 0} (p : X → Bool) (xs : List X) → list_all p xs ≡ true → (k : ℕ) (x : X) → slice_get xs k ≡ Some x → p x ≡ true
passes_at p xs h k x e = each_at (λ y. p y ≡ true) xs k x (passes_each p xs h) e

pub fails_at : {X : Type 0} (p : X → Bool) (xs : List X) (k : ℕ) (x : X) → list_any p xs ≡ false → slice_get xs k ≡ Some x → p x ≡ false
fails_at p xs k x h e = each_at (λ y. p y ≡ false) xs k x (fails_each p xs h) e

pub none_any : {X : Type 0} (p : X → Bool) (xs : List X) → ((q : ℕ) (x : X) → slice_get xs q ≡ Some x → p x ≡ false) → list_any p xs ≡ false
none_any p [] f = refl
none_any p (x ∷ xs) f = grind (arith, nat_tests, f 0 x refl, none_any p xs (λ q y e. f (suc q) y e))

-- one that is, or none
pub any_or_none : {X : Type 0} (p : X → Bool) (xs : List X) → (list_any p xs ≡ false) ⊎ ((q : ℕ) × ((x : X) × ((slice_get xs q ≡ Some x) × (p x ≡ true))))
any_or_none p [] = inl refl
any_or_none p (x ∷ xs) = elim (holds_or_not (p x)) [
  | inl e ↦ inr (0, (x, (refl, e)))
  | inr e ↦ elim (any_or_none p xs) [ inl n ↦ inl (λ i. (e i || n i)) | inr r ↦ inr (suc r.0, r.1) ]
]

pub zip_weaker : {A B : Type 0} (R Q : A → B → Type 0) (xs : List A) (ys : List B) → ((a : A) (b : B) → R a b → Q a b) → AllZip R xs ys → AllZip Q xs ys
zip_weaker R Q [] [] f h = tt
zip_weaker R Q (x ∷ xs) (y ∷ ys) f h = (f x y h.0, zip_weaker R Q xs ys f h.1)
zip_weaker n m k u f h = absurd h
