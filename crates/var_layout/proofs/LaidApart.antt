-- No two variables of a laid out header share a byte.
use Rattle.var_layout.proofs.Words.{◌≡◌, ℕ, suc, ◌+◌, ◌-◌, ◌<◌, ◌≤◌, List, [], ◌∷◌, inl, inr, holds_or_not, length, map, Bool, true, false, cond, ◌||◌, Some, None, refl, ap, arith, filter, sum_by, nat_lt, nat_le, slice_get, nat_tests, length-map, slice_get_read, slab_below, Header, Var, Align, slab, vsize, is_record, recsize, record_size, record_variables, sharing, sharing_with, sharing_from, share, meet, placed, begins, begin_of, HasPlace}
use Rattle.var_layout.proofs.Soundness.{recsize_shared}
use Rattle.var_layout.proofs.Searches.{Lies}
use Rattle.var_layout.proofs.CreatedFiles.{in_place}
use Rattle.var_layout.proofs.LaidPlaces.{lies_at, fixed_grows, all_records, records_grow, fixed_at, record_at, first_low, header_low}

-- ---- no two variables share a byte

-- of two variables, whether each is a record variable, their begins and slabs, and the size of a record
abbrev pub shares_by : Bool → Bool → ℕ → ℕ → ℕ → ℕ → ℕ → Bool
shares_by t u a n b m size =
    cond t (cond u (cond (nat_le a b) (nat_lt b (a + n) || nat_lt (a + size) (b + m)) (nat_lt a (b + m) || nat_lt (b + size) (a + n))) (nat_lt a (b + m)))
    (cond u (nat_lt b (a + n)) (meet a n b m))

pub fixed_then_record : (a n b m size : ℕ) → a + n ≤ b → shares_by false true a n b m size ≡ false
fixed_then_record a n b m size h = let e : nat_lt b (a + n) ≡ false = grind (arith, nat_tests) in e

pub record_then_fixed : (a n b m size : ℕ) → b + m ≤ a → shares_by true false a n b m size ≡ false
record_then_fixed a n b m size h = let e : nat_lt a (b + m) ≡ false = grind (arith, nat_tests) in e

records_apart : (a n b m size : ℕ) → a + n ≤ b → b + m ≤ a + size → shares_by true true a n b m size ≡ false
records_apart a n b m size h g = grind (arith, nat_tests)

placed_slabs : (header : Header) (align : Align) (first n : ℕ) (vs : List Var)
    → map (λ v. slab header v) (record_variables header (placed header align first n vs)) ≡ map (λ v. slab header v) (record_variables header vs)
placed_slabs header align first n [] = refl
placed_slabs header align first n (v ∷ vs) = grind (arith, nat_tests, placed_slabs header align first (suc n) vs)

laid_recsize : (header : Header) (align : Align) (first : ℕ) → recsize (begins header align first) ≡ recsize header
laid_recsize header align first = ap (λ ns. record_size ns) (placed_slabs header align first 0 header.vars)

count_one : {A : Type 0} (p : A → Bool) (xs : List A) (k : ℕ) (x : A) → slice_get xs k ≡ Some x → p x ≡ true → 1 ≤ length (filter p xs)
count_one p [] k x h e = cc
count_one {A} p (y ∷ xs) k x h e = grind (arith, nat_tests, count_one p xs)

pub count_two : {A : Type 0} (p : A → Bool) (xs : List A) (i j : ℕ) (x y : A) → i < j → slice_get xs i ≡ Some x → slice_get xs j ≡ Some y → p x ≡ true → p y ≡ true
    → 2 ≤ length (filter p xs)
count_two p [] i j x y l h g e f = cc
count_two {A} p (z ∷ xs) i j x y l h g e f = grind (arith, nat_tests, count_one p xs, count_two p xs)

-- with two record variables at least, a record has the sum of their vsizes
recsize_of_two : (header : Header) → 2 ≤ length (record_variables header header.vars) → recsize header ≡ sum_by (λ v. vsize header v) (record_variables header header.vars)
recsize_of_two header h = grind (arith, nat_tests, length-map, recsize_shared)

pub get_there : (header : Header) (k : ℕ) (v : Var) → Lies header k v → slice_get header.vars k ≡ Some v
get_there header k v lies = slice_get_read header.vars (length header.vars) k v refl lies.within lies.there

laid_apart : (header : Header) (align : Align) (len first : ℕ) → 0 < align.var → HasPlace header align len first → (i j : ℕ) (v w : Var) → i < j → Lies header i v → Lies header j w
    → (t u : Bool) → is_record header v ≡ t → is_record header w ≡ u
    → shares_by t u (begin_of header align len i v) (slab header v) (begin_of header align len j w) (slab header w) (recsize header) ≡ false
laid_apart header align len first pos place i j v w l lies lies' false false e f = grind (arith, nat_tests, fixed_at, fixed_grows, slab_below)
laid_apart header align len first pos place i j v w l lies lies' false true e f =
    let a = fixed_at header align len i v pos lies e in
    let b = record_at header align len j w lies' f in
    grind (arith, nat_tests, a.high, b.low, first_low header align len pos, slab_below header v, fixed_grows header align len (i + 1) (length header.vars) v pos, lies.within)
laid_apart header align len first pos place i j v w l lies lies' true false e f =
    let a = record_at header align len i v lies e in
    let b = fixed_at header align len j w pos lies' f in
    grind (arith, nat_tests, a.low, b.high, first_low header align len pos, slab_below header w, fixed_grows header align len (j + 1) (length header.vars) v pos, lies'.within)
laid_apart header align len first pos place i j v w l lies lies' true true e f =
    let a = record_at header align len i v lies e in
    let b = record_at header align len j w lies' f in
    let all = records_grow header (j + 1) (length header.vars) v (omega (arith, lies'.within)) (omega arith) in
    let size = recsize_of_two header (count_two (λ x. is_record header x) header.vars i j v w l (get_there header i v lies) (get_there header j w lies') e f) in
    records_apart (begin_of header align len i v) (slab header v) (begin_of header align len j w) (slab header w) (recsize header)
    (omega (arith, a.high, b.low, slab_below header v, records_grow header (i + 1) j v (omega arith) (omega (arith, lies'.within))))
    (omega (arith, a.low, b.high, all, size, all_records header, slab_below header w))

no_sharing_with : (header : Header) (v : Var) (k m : ℕ) (ws : List Var) → ((j : ℕ) (w : Var) → slice_get ws j ≡ Some w → share header v w ≡ false) → sharing_with header v k m ws ≡ None
no_sharing_with header v k m [] h = refl
no_sharing_with header v k m (w ∷ ws) h = rw (h 0 w refl) (no_sharing_with header v k (suc m) ws (λ j x g. h (suc j) x g))

pub no_sharing_from : (header : Header) (first k : ℕ) (vs : List Var) → ((i : ℕ) (v : Var) → slice_get vs i ≡ Some v → first ≤ v.begin)
    → ((i j : ℕ) (v w : Var) → i < j → slice_get vs i ≡ Some v → slice_get vs j ≡ Some w → share header v w ≡ false) → sharing_from header first k vs ≡ None
no_sharing_from header first k [] low h = refl
no_sharing_from header first k (v ∷ vs) low h =
    let begins = low 0 v refl in
    let past : nat_lt v.begin first ≡ false = grind (arith, nat_tests) in
    rw (past, no_sharing_with header v k (suc k) vs (λ j w g. h 0 (suc j) v w (omega arith) refl g))
    (no_sharing_from header first (suc k) vs (λ i w g. low (suc i) w g) (λ i j x y l g f. h (suc i) (suc j) x y (omega arith) g f))

pub laid_sharing : (header : Header) (align : Align) (len first : ℕ) → 0 < align.header → 0 < align.var → HasPlace header align len first → sharing (begins header align len) len ≡ None
laid_sharing header align len first pos pos' place =
    no_sharing_from (begins header align len) len 0 (placed header align len 0 header.vars)
    (λ i w g. low i w (lies_at header align len i w g))
    (λ i j x y l g f. apart i j x y l (lies_at header align len i x g) (lies_at header align len j y f))
  where
    low : (i : ℕ) (w : Var) → ((v : Var) × Lies header i v × (in_place header align len i v ≡ w)) → len ≤ w.begin
    low i w found = rw (← found.2) (elim (holds_or_not (is_record header found.0)) [
      | inl e ↦ omega (
        arith,
        (record_at header align len i found.0 found.1 e).low,
        first_low header align len pos',
        header_low header align len (length header.vars) found.0 pos pos' (omega arith),
      )
      | inr e ↦ omega (arith, (fixed_at header align len i found.0 pos' found.1 e).low, header_low header align len i found.0 pos pos' (omega (arith, found.1.within)))
    ])

    apart : (i j : ℕ) (x y : Var) → i < j → ((v : Var) × Lies header i v × (in_place header align len i v ≡ x)) → ((w : Var) × Lies header j w × (in_place header align len j w ≡ y))
        → share (begins header align len) x y ≡ false
    apart i j x y l a b =
        rw (← a.2, ← b.2, laid_recsize header align len) (laid_apart header align len first pos' place i j a.0 b.0 l a.1 b.1 (is_record header a.0) (is_record header b.0) refl refl)
