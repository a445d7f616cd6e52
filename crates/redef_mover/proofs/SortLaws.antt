-- The slabs of the variables, listed and sorted as the code does.
use Rattle.redef_mover.proofs.Words.{◌≡◌, ℕ, zero, suc, ◌+◌, ◌<◌, refl, sym, ◌∙◌, ap, List, [], ◌∷◌, ◌++◌, length, map, take, get_or, Bool, true, false, cond, arith, enumerate_from, zip, IsSortedByKey, IsStableByKey, nat_cmp, nat_tests, map-append, take_more, filter-append, IsNonDecreasingBy-from_sort, length-enumerate_from, Var, Slab, lowest_first, Shift, is_kind, slab_of, filter, take_all}
use mathlib.Core.Bool.{beq}
use Rattle.redef_mover.proofs.Sorting.{sort_is, sorted_map, stable_is}

-- ---- listing

-- one variable more
pub listed_more : {A B : Type 0} (test : A → Bool) (f : A → B) (all : List A) (n m : ℕ) (x : A) → n < length all → x ≡ get_or all n x → m ≡ n + 1
    → map f (filter test (take m all)) ≡ map f (filter test (take n all)) ++ map f (filter test (x ∷ []))
listed_more test f all n m x h e k =
    grind (arith, nat_tests, take_more all n x h, filter-append test (take n all) (x ∷ []), map-append f (filter test (take n all)) (filter test (x ∷ [])))

-- the test of the code
pub same_kind : (kind records : Bool) → beq kind records ≡ is_kind records kind
same_kind kind records = grind (arith, nat_tests)

-- the slab of a variable is listed where its kind is asked for
pub one_listed : {A : Type 0} (test : A → Bool) (f : A → Slab) (x : A) (s : Shift) (wanted : Bool) → wanted ≡ test x → slab_of s ≡ f x
    → map slab_of (cond wanted (s ∷ []) []) ≡ map f (filter test (x ∷ []))
one_listed test f x s true e g = (λ t. g t ∷ []) ∙ ap (λ (b : Bool). map f (cond b (x ∷ []) [])) e
one_listed test f x s false e g = ap (λ (b : Bool). map f (cond b (x ∷ []) [])) e

pub kind_listed : {A : Type 0} (test : A → Bool) (f : A → Slab) (all : List A) (n m : ℕ) (x : A) (s : Shift) (wanted : Bool) (now next : List Shift) → n < length all → x ≡ get_or all n x
    → m ≡ n + 1 → wanted ≡ test x → slab_of s ≡ f x → next ≡ now ++ cond wanted (s ∷ []) []
    → map slab_of now ≡ map f (filter test (take n all)) → map slab_of next ≡ map f (filter test (take m all))
kind_listed test f all n m x s wanted now next h e k w g p so_far =
    grind (arith, nat_tests, map-append slab_of now (cond wanted (s ∷ []) []), listed_more test f all n m x h e k, one_listed)

pub all_listed : {A : Type 0} (test : A → Bool) (f : A → Slab) (all : List A) (n : ℕ) (now : List Shift) → n ≡ length all
    → map slab_of now ≡ map f (filter test (take n all)) → map slab_of now ≡ map f (filter test all)
all_listed test f all n now e so_far = so_far ∙ ap (λ xs. map f (filter test xs)) (take_all n all (omega arith))

-- a number in front changes no pair
pub record IsAt {A : Type 0} (xs : List A) (n : ℕ) (x : A) : Type 0 where
  pub within : n < length xs
  pub here : x ≡ get_or xs n x

enumerated : {A : Type 0} (xs : List A) (i n : ℕ) (x : ℕ × A) → n < length (enumerate_from i xs) → x ≡ get_or (enumerate_from i xs) n x → IsAt xs n x.1
enumerated [] i n x h e = absurd (omega arith)
enumerated (y ∷ xs) i zero x h e = record { within = omega arith; here = ap (λ p. p.1) e }
enumerated (y ∷ xs) i (suc n) x h e = grind (arith, nat_tests, enumerated xs (i + 1) n x (omega arith) e)

pub pair_at : (vs ws olds news : List Var) (n : ℕ) (x : ℕ × (Var × Var)) → vs ≡ olds → ws ≡ news → n < length (enumerate_from 0 (zip vs ws))
    → x ≡ get_or (enumerate_from 0 (zip vs ws)) n x → IsAt (zip olds news) n x.1
pair_at vs ws olds news n x e f h g = grind (arith, nat_tests, enumerated (zip vs ws) 0 n x h g)

pub pairs_end : (vs ws olds news : List Var) (n : ℕ) → vs ≡ olds → ws ≡ news → n ≡ length (enumerate_from 0 (zip vs ws)) → n ≡ length (zip olds news)
pairs_end vs ws olds news n e f h = h ∙ length-enumerate_from 0 (zip vs ws) ∙ (λ t. length (zip (e t) (f t)))

-- ---- sorting

pub sorted_is : (xs ys : List Shift) (ss : List Slab) → map slab_of xs ≡ ss → IsSortedByKey (λ (s : Shift). s.from) nat_cmp ys → IsStableByKey (λ (s : Shift). s.from) nat_cmp xs ys
    → map slab_of ys ≡ lowest_first ss
sorted_is xs ys ss e up stable =
    let place = λ (s : Shift). s.from in
    ap (λ us. map slab_of us)
    (sort_is place xs ys (IsNonDecreasingBy-from_sort place ys up) (stable_is place xs ys (λ (n : ℕ). record { from = n; to = 0; len = 0 }) (λ n. refl) stable))
    ∙ sym (sorted_map (λ (s : Slab). s.from) slab_of xs) ∙ ap (λ us. lowest_first us) e
