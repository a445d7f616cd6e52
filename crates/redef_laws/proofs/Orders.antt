-- Lists in order.
--     Pairwise R xs       each item stands to every later one as R says
--     Orders before D R   items that stand to each other as D says stand as R says where the test puts them
--     sorted_in, in_sorted, sorted_sum, sorted_pairs      what a sorted list has, and how its items stand
--     same_pairs          there is one order of the same items
use Rattle.redef_laws.proofs.Words.{◌≡◌, ℕ, zero, suc, ◌+◌, ◌<◌, refl, sym, ap, ◌∙◌, inl, inr, List, [], ◌∷◌, ◌++◌, map, flat_map, reverse, Bool, true, false, Some, arith, nat_tests, subst, filter, sum_by, slice_get, reverse_onto, sum_by-cons, range_with_len, inserted_by, in_either, in_left, in_right, flat_in, range_low, filter_in, map_in, In, HaveSame}
use Rattle.serial_spec.proofs.MemberLaws.{in_at}
use Rattle.serial_spec.specs.Lists.{sorted_by}

abbrev pub Pairwise : {X : Type 0} → (X → X → Type 0) → List X → Type 0
Pairwise R [] = Unit {0}
Pairwise {X} R (x ∷ xs) = ((y : X) → In xs y → R x y) × Pairwise R xs

pub pairs_weaker : {X : Type 0} (R S : X → X → Type 0) (xs : List X) → ((x y : X) → In xs x → In xs y → R x y → S x y) → Pairwise R xs → Pairwise S xs
pairs_weaker R S [] f h = tt
pairs_weaker R S (x ∷ xs) f h = ((λ y m. f x y (inl refl) (inr m) (h.0 y m)), pairs_weaker R S xs (λ y z m n. f y z (inr m) (inr n)) h.1)

pub pairs_filter : {X : Type 0} (R : X → X → Type 0) (t : X → Bool) (xs : List X) → Pairwise R xs → Pairwise R (filter t xs)
pairs_filter R t [] h = tt
pairs_filter R t (x ∷ xs) h = grind (arith, nat_tests, pairs_filter R t xs h.1, filter_in)

pub pairs_map : {X Y : Type 0} (R : Y → Y → Type 0) (f : X → Y) (xs : List X) → Pairwise (λ x y. R (f x) (f y)) xs → Pairwise R (map f xs)
pairs_map R f [] h = tt
pairs_map R f (x ∷ xs) h = ((λ y m. let r = map_in f xs y m in subst (λ z. R (f x) z) r.2 (h.0 r.0 r.1)), pairs_map R f xs h.1)

pub pairs_append : {X : Type 0} (R : X → X → Type 0) (xs ys : List X) → Pairwise R xs → Pairwise R ys → ((x y : X) → In xs x → In ys y → R x y) → Pairwise R (xs ++ ys)
pairs_append R [] ys h k f = k
pairs_append R (x ∷ xs) ys h k f = grind (arith, nat_tests, in_either xs ys, pairs_append R xs ys h.1 k)

pub reverse_in : {X : Type 0} (xs : List X) (x : X) → In (reverse xs) x → In xs x
reverse_in [] x h = h
reverse_in (y ∷ xs) x h = grind (arith, nat_tests, reverse_in xs x, in_either, reverse_onto xs y [])

pub in_reverse : {X : Type 0} (xs : List X) (x : X) → In xs x → In (reverse xs) x
in_reverse [] x h = h
in_reverse (y ∷ xs) x h = grind (arith, nat_tests, in_reverse xs x, in_left, in_right, reverse_onto xs y [])

pub pairs_reverse : {X : Type 0} (R : X → X → Type 0) (xs : List X) → Pairwise R xs → Pairwise (λ x y. R y x) (reverse xs)
pairs_reverse R [] h = tt
pairs_reverse {X} R (x ∷ xs) h =
    subst (Pairwise (λ y z. R z y)) (sym (reverse_onto xs x []))
    (pairs_append (λ y z. R z y) (reverse xs) (x ∷ []) (pairs_reverse R xs h.1) ((λ y m. absurd m), tt)
    (λ y z m n. elim n [ inl e ↦ subst (λ (u : X). R u y) e (h.0 y (reverse_in xs y m)) | inr g ↦ absurd g ]))

-- by the places of the items
pub pairs_by_place : {X : Type 0} (R : X → X → Type 0) (xs : List X) → ((i j : ℕ) (x y : X) → i < j → slice_get xs i ≡ Some x → slice_get xs j ≡ Some y → R x y) → Pairwise R xs
pairs_by_place R [] h = tt
pairs_by_place R (x ∷ xs) h = (
  (λ y m. let at = in_at xs y m in h 0 (suc at.0) x y (omega arith) refl at.1),
  pairs_by_place R xs (λ i j y z l e f. h (suc i) (suc j) y z (omega arith) e f),
)

pub pairs_range : (a n : ℕ) → Pairwise (λ r q. r < q) (range_with_len a n)
pairs_range a zero = tt
pairs_range a (suc n) = ((λ q m. let low = range_low (a + 1) n q m in omega arith), pairs_range (a + 1) n)

pub pairs_flat : {X Y : Type 0} (R : Y → Y → Type 0) (f : X → List Y) (xs : List X) → ((x : X) → In xs x → Pairwise R (f x))
    → Pairwise (λ x y. (s t : Y) → In (f x) s → In (f y) t → R s t) xs → Pairwise R (flat_map f xs)
pairs_flat R f [] own h = tt
pairs_flat R f (x ∷ xs) own h = grind (arith, nat_tests, pairs_append, pairs_flat R f xs, flat_in, Pairwise, flat_map)

-- ---- sorted lists

module _ {X : Type 0} (before : X → X → Bool) where
  put_in : (x : X) (xs : List X) (y : X) → (In (inserted_by before x xs) y → In (x ∷ xs) y) × (In (x ∷ xs) y → In (inserted_by before x xs) y)
  put_in x [] y = ((λ h. h), (λ h. h))
  put_in x (z ∷ xs) y = grind (arith, nat_tests, put_in x xs y)

  pub sorted_in : (xs : List X) (y : X) → In (sorted_by before xs) y → In xs y
  sorted_in [] y h = h
  sorted_in (x ∷ xs) y h = grind (arith, nat_tests, (put_in x (sorted_by before xs) y).0 h, sorted_in xs y)

  pub in_sorted : (xs : List X) (y : X) → In xs y → In (sorted_by before xs) y
  in_sorted [] y h = h
  in_sorted (x ∷ xs) y h = grind (arith, nat_tests, put_in x (sorted_by before xs) y, in_sorted xs y)

  put_sum : (f : X → ℕ) (x : X) (xs : List X) → sum_by f (inserted_by before x xs) ≡ f x + sum_by f xs
  put_sum f x [] = sum_by-cons f x []
  put_sum f x (y ∷ xs) = grind (arith, nat_tests, put_sum f x xs, sum_by-cons f x (y ∷ xs), sum_by-cons f y xs, sum_by-cons f y (inserted_by before x xs))

  pub sorted_sum : (f : X → ℕ) (xs : List X) → sum_by f (sorted_by before xs) ≡ sum_by f xs
  sorted_sum f [] = refl
  sorted_sum f (x ∷ xs) = put_sum f x (sorted_by before xs) ∙ ap (λ n. f x + n) (sorted_sum f xs) ∙ sym (sum_by-cons f x xs)

-- what the test and a relation of the list's items say of their order
pub record Orders {X : Type 0} (before : X → X → Bool) (D R : X → X → Type 0) : Type 0 where
  pub passed : (x y : X) → D x y → before x y ≡ true → R x y
  pub failed : (x y : X) → D x y → before x y ≡ false → R y x
  pub on : (x y z : X) → R x y → R y z → R x z

module _ {X : Type 0} (before : X → X → Bool) (D R : X → X → Type 0) (o : Orders before D R) where
  put_pairs : (x : X) (xs : List X) → ((y : X) → In xs y → D x y) → Pairwise R xs → Pairwise R (inserted_by before x xs)
  put_pairs x [] d h = ((λ y m. absurd m), tt)
  put_pairs x (y ∷ xs) d h = grind (arith, nat_tests, put_pairs x xs (λ z m. d z (inr m)) h.1, put_in, o.passed, o.failed, o.on)

  pub sorted_pairs : (xs : List X) → Pairwise D xs → Pairwise R (sorted_by before xs)
  sorted_pairs [] h = tt
  sorted_pairs (x ∷ xs) h = put_pairs x (sorted_by before xs) (λ y m. h.0 y (sorted_in before xs y m)) (sorted_pairs xs h.1)

-- ---- there is one order of the same items

pub same_pairs : {X : Type 0} (R : X → X → Type 0) → ((x y : X) → R x y → R y x → ⊥) → (xs ys : List X) → Pairwise R xs → Pairwise R ys → HaveSame xs ys → xs ≡ ys
same_pairs R turn [] [] h k m = refl
same_pairs R turn [] (y ∷ ys) h k m = absurd (m.1 y (inl refl))
same_pairs R turn (x ∷ xs) [] h k m = absurd (m.0 x (inl refl))
same_pairs R turn (x ∷ xs) (y ∷ ys) h k m =
    let heads : x ≡ y = grind (arith, nat_tests, m.0 x (inl refl), m.1 y (inl refl), turn x y, h.0 y, k.0 x) in
    let tail : HaveSame xs ys = ((λ w n. grind (arith, nat_tests, m.0 w (inr n), h.0 w n, turn x x)), (λ w n. grind (arith, nat_tests, m.1 w (inr n), k.0 w n, turn y y))) in
    λ i. heads i ∷ same_pairs R turn xs ys h.1 k.1 tail i
