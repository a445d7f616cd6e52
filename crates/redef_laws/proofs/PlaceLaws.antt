-- Where each variable of a redefined header begins.
--     fixed_place, old_place, new_place     of a fixed variable, an old record variable, a new one
--     any_place                             each number has a begin
use Rattle.redef_laws.proofs.Words.{begins_before, in_either, filter_in, numbered_in, in_numbered, ◌≡◌, ℕ, ◌+◌, ◌-◌, ◌<◌, ◌≤◌, min, List, [], ◌∷◌, map, true, false, Option, Some, None, refl, ap, inl, ◌⊎◌, arith, holds_or_not, fold, slice_get, unwrap_or, enumerate_from, find-append, lt-ltb, le-leb, leb-true, ltb-true, ltb-false, in_filter, in_map, map_in, Header, Var, slab, vsize, is_record, header_len, least, Numbered, records_in, old_of, new_of, by_begin, fixed_order, fixed_begins, front_after, first_record, record_begins, begins_by_number, begin_of_number, In, in_left, in_right, nat_tests}
use Rattle.redef_laws.proofs.Orders.{in_sorted, sorted_in}
use Rattle.redef_laws.proofs.BeginLaws.{IsBegin, record_end, Numbers, at_number, fixed_begin, HasNone, fixed_none, map_begin, map_none, vsizes, record_begin}

-- ---- the parts of the begins

abbrev pub numbered : Header → List Numbered
numbered header = enumerate_from 0 header.vars

abbrev pub old_records : Header → ℕ → List Numbered
old_records header n = old_of n (records_in header (numbered header))

abbrev pub new_records : Header → ℕ → List Numbered
new_records header n = new_of n (records_in header (numbered header))

abbrev pub fixed_end : Header → ℕ → ℕ
fixed_end header n = front_after header (header_len header) (fixed_order header n)

-- the least begin of the old record variables
abbrev pub old_first : Header → ℕ → ℕ
old_first header n = unwrap_or (least (map (λ v. v.1.begin) (old_records header n))) 0

-- in the order in which they are placed
abbrev pub placed_records : Header → ℕ → List Numbered
placed_records header n = by_begin (old_records header n)

-- where the record variables begin
abbrev pub first_place : Header → ℕ → ℕ
first_place header n = first_record (fixed_end header n) (least (map (λ v. v.1.begin) (old_records header n)))

abbrev pub old_place_of : Header → ℕ → Var → ℕ
old_place_of header n v = first_place header n + (v.begin - old_first header n)

abbrev pub new_from : Header → ℕ → ℕ
new_from header n = first_place header n + vsizes header (old_records header n)

pub first_up : (header : Header) (n : ℕ) → fixed_end header n ≤ first_place header n
first_up header n = grind (arith, nat_tests, leb-true)

-- ---- members

pub in_fixed : (header : Header) (n k : ℕ) (v : Var) → slice_get header.vars k ≡ Some v → is_record header v ≡ false → In (fixed_order header n) (k, v)
in_fixed header n k v g e = grind (arith, nat_tests, in_filter, in_numbered, in_left, in_sorted, in_right, le-leb, ltb-false)

pub in_old : (header : Header) (n k : ℕ) (v : Var) → slice_get header.vars k ≡ Some v → is_record header v ≡ true → k < n → In (old_records header n) (k, v)
in_old header n k v g e l = grind (arith, nat_tests, in_filter, in_numbered, lt-ltb)

pub in_new : (header : Header) (n k : ℕ) (v : Var) → slice_get header.vars k ≡ Some v → is_record header v ≡ true → n ≤ k → In (new_records header n) (k, v)
in_new header n k v g e l = grind (arith, nat_tests, in_filter, in_numbered, le-leb)

pub fixed_numbers : (header : Header) (n : ℕ) → Numbers header.vars (fixed_order header n)
fixed_numbers header n p h = grind (arith, nat_tests, in_either, sorted_in, filter_in, numbered_in)

pub old_numbers : (header : Header) (n : ℕ) → Numbers header.vars (old_records header n)
old_numbers header n p h = grind (arith, nat_tests, filter_in, numbered_in)

pub new_numbers : (header : Header) (n : ℕ) → Numbers header.vars (new_records header n)
new_numbers header n p h = grind (arith, nat_tests, filter_in, numbered_in)

-- a record variable is no fixed one, and a new one is no old one
not_fixed : (header : Header) (n k : ℕ) (v : Var) → slice_get header.vars k ≡ Some v → is_record header v ≡ true → HasNone k (fixed_order header n)
not_fixed header n k v g e p m same = grind (arith, nat_tests, in_either, sorted_in, filter_in, fixed_numbers header n p m)

-- ---- places

abbrev pub IsFixedPlace : Header → ℕ → ℕ → Var → ℕ → Type 0
IsFixedPlace header n k v b = IsBegin (fixed_begins header) (slab header) (λ w. w.begin) (front_after header) (header_len header) (fixed_order header n) k v b

pub fixed_place : (header : Header) (n k : ℕ) (v : Var) → slice_get header.vars k ≡ Some v → is_record header v ≡ false
    → (b : ℕ) × IsFixedPlace header n k v b × (at_number (begins_by_number header n) k ≡ Some (k, b))
fixed_place header n k v g e =
    let found = fixed_begin header header.vars (header_len header) (fixed_order header n) k v (fixed_numbers header n) (in_fixed header n k v g e) in
    grind (arith, nat_tests, find-append, found.0, found.1, found.1.at)

pub old_place : (header : Header) (n k : ℕ) (v : Var) → slice_get header.vars k ≡ Some v → is_record header v ≡ true → k < n
    → at_number (begins_by_number header n) k ≡ Some (k, old_place_of header n v)
old_place header n k v g e l =
    let numbers : Numbers header.vars (placed_records header n) = λ p m. old_numbers header n p (sorted_in begins_before (old_records header n) p m) in
    let here = map_begin (old_place_of header n) header.vars (placed_records header n) k v numbers (in_sorted begins_before (old_records header n) (k, v) (in_old header n k v g e l)) in
    grind (arith, nat_tests, find-append, fixed_none header (header_len header) (fixed_order header n) k (not_fixed header n k v g e), here)

abbrev pub IsNewPlace : Header → ℕ → ℕ → Var → ℕ → Type 0
IsNewPlace header n k v b = IsBegin (record_begins header) (vsize header) (λ w. 0) (record_end header) (new_from header n) (new_records header n) k v b

pub new_place : (header : Header) (n k : ℕ) (v : Var) → slice_get header.vars k ≡ Some v → is_record header v ≡ true → n ≤ k
    → (b : ℕ) × IsNewPlace header n k v b × (at_number (begins_by_number header n) k ≡ Some (k, b))
new_place header n k v g e l =
    let found = record_begin header header.vars (new_from header n) (new_records header n) k v (new_numbers header n) (in_new header n k v g e l) in
    let none : HasNone k (placed_records header n) = λ p m same. grind (arith, nat_tests, sorted_in begins_before (old_records header n) p m, filter_in, ltb-true) in
    grind (arith, nat_tests, find-append, fixed_none header (header_len header) (fixed_order header n) k (not_fixed header n k v g e), map_none (old_place_of header n) (placed_records header n) k none, found.0, found.1, found.1.at)

pub any_place : (header : Header) (n k : ℕ) (v : Var) → slice_get header.vars k ≡ Some v → (b : ℕ) × (at_number (begins_by_number header n) k ≡ Some (k, b))
any_place header n k v g = grind (arith, nat_tests, holds_or_not (is_record header v), fixed_place header n k v g, old_place header n k v g, new_place header n k v g)

pub begin_is : (found : List (ℕ × ℕ)) (k b : ℕ) → at_number found k ≡ Some (k, b) → begin_of_number found k ≡ b
begin_is found k b e = ap (λ (o : Option (ℕ × ℕ)). elim o as (λ q. ℕ) [ None ↦ 0 | Some p ↦ p.1 ]) e

-- ---- the least begin of the old record variables

min_each : (xs : List ℕ) (a y : ℕ) → In (a ∷ xs) y → fold (λ x z. min x z) a xs ≤ y
min_each [] a y h = grind (arith, nat_tests, h)
min_each (x ∷ xs) a y h = grind (arith, nat_tests, min_each xs (min a x) y, min_each xs (min a x) (min a x) (inl refl))

min_is : (xs : List ℕ) (a : ℕ) → (fold (λ x y. min x y) a xs ≡ a) ⊎ In xs (fold (λ x y. min x y) a xs)
min_is [] a = inl refl
min_is (x ∷ xs) a = grind (arith, nat_tests, min_is xs (min a x))

least_in : (xs : List ℕ) (y : ℕ) → In xs y → In xs (unwrap_or (least xs) 0)
least_in xs y h = grind (arith, nat_tests, min_is)

pub old_first_low : (header : Header) (n : ℕ) (p : Numbered) → In (old_records header n) p → old_first header n ≤ p.1.begin
old_first_low header n p h = grind (arith, nat_tests, in_map (λ (q : Numbered). q.1.begin) (old_records header n) p h, min_each)

-- an old record variable has it
pub old_first_is : (header : Header) (n : ℕ) (p : Numbered) → In (old_records header n) p
    → (q : Numbered) × In (old_records header n) q × (q.1.begin ≡ old_first header n)
old_first_is header n p h =
    map_in (λ (q : Numbered). q.1.begin) (old_records header n) (old_first header n)
    (least_in (map (λ v. v.1.begin) (old_records header n)) p.1.begin (in_map (λ (q : Numbered). q.1.begin) (old_records header n) p h))
