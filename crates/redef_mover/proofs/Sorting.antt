-- A stable sort by a number leaves just one list: the one that insertion leaves.
use Rattle.redef_mover.proofs.Words.{◌≡◌, ℕ, ◌≤◌, List, [], ◌∷◌, map, Bool, true, cond, refl, sym, ap, subst, ◌∙◌, arith, inl, filter, nat_le, not, ◌==◌, ◌&&◌, IsNonDecreasingBy, IsStableByKey, ties, nat_cmp, is_lt, nat_tests, filter_agree, get_or_from_slice_get, In}
use Rattle.std.proofs.lemmas.Bool.{eqb-true, leb-true, leb-false}
use Rattle.std.proofs.lemmas.Option.{slice_get_within}
use Rattle.serial_spec.proofs.MemberLaws.{filter_in}
use Rattle.serial_spec.specs.Lists.{inserted_by, sorted_by as in_order_by}
use Rattle.redef_laws.proofs.Orders.{Orders, Pairwise, pairs_by_place, sorted_pairs}

abbrev pub put_by : {A : Type 0} → (A → ℕ) → A → List A → List A
put_by key x xs = inserted_by (λ a b. nat_le (key a) (key b)) x xs

abbrev pub sorted_by : {A : Type 0} → (A → ℕ) → List A → List A
sorted_by key xs = in_order_by (λ a b. nat_le (key a) (key b)) xs

-- the items of this number
abbrev pub of_key : {A : Type 0} → (A → ℕ) → ℕ → List A → List A
of_key key n xs = filter (λ x. key x == n) xs

abbrev pub Rises : {A : Type 0} → (A → ℕ) → List A → Type 0
Rises key xs = Pairwise (λ x y. key x ≤ key y) xs

-- ---- what insertion leaves

put_keeps : {A : Type 0} (key : A → ℕ) (n : ℕ) (x : A) (xs : List A) → of_key key n (put_by key x xs) ≡ of_key key n (x ∷ xs)
put_keeps key n x [] = refl
put_keeps key n x (y ∷ ys) = grind (arith, nat_tests, put_keeps key n x ys)

pub sorted_keeps : {A : Type 0} (key : A → ℕ) (n : ℕ) (xs : List A) → of_key key n (sorted_by key xs) ≡ of_key key n xs
sorted_keeps key n [] = refl
sorted_keeps key n (x ∷ xs) = grind (arith, nat_tests, sorted_keeps key n xs, put_keeps key n x (sorted_by key xs))

by_key : {A : Type 0} (key : A → ℕ) → Orders (λ x y. nat_le (key x) (key y)) (λ x y. Unit {0}) (λ x y. key x ≤ key y)
by_key key = record { passed = λ x y d e. leb-true (key x) (key y) e; failed = λ x y d e. (let l = leb-false (key x) (key y) e in omega arith); on = λ x y z l m. omega (arith, l, m) }

pub sorted_rises : {A : Type 0} (key : A → ℕ) (xs : List A) → Rises key (sorted_by key xs)
sorted_rises key xs = grind (arith, nat_tests, sorted_pairs, by_key key, pairs_by_place)

-- ---- there is one such list

own_key : {A : Type 0} (key : A → ℕ) (x : A) (xs : List A) → of_key key (key x) (x ∷ xs) ≡ x ∷ of_key key (key x) xs
own_key key x xs = ap (λ (t : Bool). cond t (x ∷ of_key key (key x) xs) (of_key key (key x) xs)) (let e : (key x == key x) ≡ true = grind (arith, nat_tests) in e)

-- a list that rises begins no higher than what it has
low_of : {A : Type 0} (key : A → ℕ) (n : ℕ) (x y : A) (zs ys : List A) → Rises key (y ∷ ys) → of_key key n (y ∷ ys) ≡ x ∷ zs → key y ≤ n
low_of {A} key n x y zs ys r e =
    let found = filter_in (λ z. key z == n) (y ∷ ys) x (subst (λ (l : List A). In l x) (sym e) (inl refl)) in
    grind (arith, nat_tests, eqb-true, found.0, r.0)

pub one_sorted : {A : Type 0} (key : A → ℕ) (xs ys : List A) → Rises key xs → Rises key ys → ((n : ℕ) → of_key key n xs ≡ of_key key n ys) → xs ≡ ys
one_sorted key [] [] r s same = refl
one_sorted key [] (y ∷ ys) r s same = let e = same (key y) ∙ own_key key y ys in cc
one_sorted key (x ∷ xs) [] r s same = let e = sym (own_key key x xs) ∙ same (key x) in cc
one_sorted {A} key (x ∷ xs) (y ∷ ys) r s same =
    grind (arith, nat_tests, one_sorted key xs ys r.1 s.1, low_of key (key x) x y (of_key key (key x) xs) ys s (sym (same (key x)) ∙ own_key key x xs), own_key key x xs, low_of key (key y) y x (of_key key (key y) ys) xs r (same (key y) ∙ own_key key y ys), own_key key y ys)

-- ---- from what a sort ensures

pub rises_from : {A : Type 0} (key : A → ℕ) (xs : List A) → IsNonDecreasingBy key xs → Rises key xs
rises_from key xs h = pairs_by_place (λ x y. key x ≤ key y) xs (λ i j x y l e f.
    omega (arith, ap key (get_or_from_slice_get xs i x x e), ap key (get_or_from_slice_get xs j y x f), h i j x (omega arith) (slice_get_within xs j y f)))

pub sort_is : {A : Type 0} (key : A → ℕ) (xs ys : List A) → IsNonDecreasingBy key ys → ((n : ℕ) → of_key key n ys ≡ of_key key n xs) → ys ≡ sorted_by key xs
sort_is key xs ys up stable = grind (arith, nat_tests, rises_from key ys up, sorted_rises key xs, one_sorted, sorted_keeps)

put_map : {A B : Type 0} (key : B → ℕ) (f : A → B) (x : A) (xs : List A) → put_by key (f x) (map f xs) ≡ map f (put_by (λ a. key (f a)) x xs)
put_map key f x [] = refl
put_map key f x (y ∷ ys) = grind (arith, nat_tests, put_map key f x ys)

pub sorted_map : {A B : Type 0} (key : B → ℕ) (f : A → B) (xs : List A) → sorted_by key (map f xs) ≡ map f (sorted_by (λ a. key (f a)) xs)
sorted_map key f [] = refl
sorted_map key f (x ∷ xs) = ap (λ ys. put_by key (f x) ys) (sorted_map key f xs) ∙ put_map key f x (sorted_by (λ a. key (f a)) xs)

tie_is : (a b : ℕ) → (not (is_lt (nat_cmp a b)) && not (is_lt (nat_cmp b a))) ≡ (b == a)
tie_is a b = grind (arith, nat_tests)

-- from the clause of a stable sort, where each number is the key of something
pub stable_is : {A : Type 0} (key : A → ℕ) (xs ys : List A) (at : ℕ → A) → ((n : ℕ) → key (at n) ≡ n) → IsStableByKey key nat_cmp xs ys → (n : ℕ) → of_key key n ys ≡ of_key key n xs
stable_is {A} key xs ys at e stable n = sym (ties_are ys) ∙ stable (at n) ∙ ties_are xs
  where
    ties_are : (zs : List A) → filter (ties (λ x y. is_lt (nat_cmp (key x) (key y))) (at n)) zs ≡ of_key key n zs
    ties_are zs = filter_agree (ties (λ x y. is_lt (nat_cmp (key x) (key y))) (at n)) (λ x. key x == n) (λ y. tie_is (key (at n)) (key y) ∙ ap (λ (m : ℕ). key y == m) (e n)) zs
