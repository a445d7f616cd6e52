-- Rows of elements, one dimension at a time, and where elements end.
use Rattle.var_layout.proofs.Words.{◌≡◌, ℕ, suc, ◌+◌, ◌-◌, ◌*◌, ◌^◌, ◌<◌, ◌≤◌, List, [], ◌∷◌, inl, inr, holds_or_not, length, drop, get_or, map, Bool, true, false, cond, Some, refl, ap, arith, slice_get, drop_more, row_fits, mul-le, mul-le-mul_left, nat_tests, size_pos, slab_shared, end_fixed, slab_below, index_fixed, index_record, Header, Var, NcType, size_of, product, greatest, is_record, inner_lengths, slab, recsize, last_share, end_of, end_of_var, row, place, record_of, within_record, IsIndex, IsElement, row_below, records_for, header_len, is_sound}
use Rattle.var_layout.proofs.Soundness.{var_kept, header_short}

-- ---- a row, one dimension at a time

pub product_pos : (lengths index : List ℕ) → IsIndex lengths index → 1 ≤ product lengths
product_pos lengths index h = let below = row_below lengths index h in omega arith

pub same_len : (lengths index : List ℕ) → IsIndex lengths index → length index ≡ length lengths
same_len [] [] h = refl
same_len (n ∷ lengths) (i ∷ index) h = ap (λ (k : ℕ). suc k) (same_len lengths index h.1)
same_len _ _ h = absurd h

-- `so_far` is the row of the first k coordinates
pub record RowSoFar (lengths index : List ℕ) (k so_far : ℕ) : Type 0 where
  pub whole : so_far * product (drop k lengths) + row (drop k lengths) (drop k index) ≡ row lengths index
  pub valid : IsIndex (drop k lengths) (drop k index)

pub one_more : (lengths index : List ℕ) (k d n i so_far : ℕ) → k < length lengths → k < length index → n ≡ get_or lengths k d → i ≡ get_or index k 0
    → RowSoFar lengths index k so_far → RowSoFar lengths index (k + 1) (so_far * n + i)
one_more lengths index k d n i so_far h g e f so = grind (arith, nat_tests, drop_more)

-- it never passes the whole row
pub so_far_below : (lengths index : List ℕ) (k so_far : ℕ) → RowSoFar lengths index k so_far → so_far ≤ row lengths index
so_far_below lengths index k so_far h = grind (arith, nat_tests, product_pos, mul-le-mul_left)

-- ---- elements

pub place_fixed : (header : Header) (v : Var) (index : List ℕ) → is_record header v ≡ false
    → place header v index ≡ v.begin + row (inner_lengths header v) index * size_of v.kind
place_fixed header v index e = ap (λ (t : Bool). cond t (v.begin + record_of index * recsize header + row (inner_lengths header v) (within_record index) * size_of v.kind) (v.begin + row (inner_lengths header v) index * size_of v.kind)) e

pub place_record : (header : Header) (v : Var) (index : List ℕ) → is_record header v ≡ true
    → place header v index ≡ v.begin + record_of index * recsize header + row (inner_lengths header v) (within_record index) * size_of v.kind
place_record header v index e = ap (λ (t : Bool). cond t (v.begin + record_of index * recsize header + row (inner_lengths header v) (within_record index) * size_of v.kind) (v.begin + row (inner_lengths header v) index * size_of v.kind)) e

in_slab : (header : Header) (v : Var) (index : List ℕ) → IsIndex (inner_lengths header v) index
    → row (inner_lengths header v) index * size_of v.kind + size_of v.kind ≤ slab header v
in_slab header v index h = grind (arith, nat_tests, row_fits, row_below)

-- a row is no more than its bytes
pub row_below_bytes : (n : ℕ) (kind : NcType) → n ≤ n * size_of kind
row_below_bytes n kind = omega (arith, mul-le-mul_left n (size_pos kind))

-- ---- the end of the file

greatest_holds : {A : Type 0} (f : A → ℕ) (xs : List A) (k : ℕ) (x : A) → slice_get xs k ≡ Some x → f x ≤ greatest (map f xs)
greatest_holds f [] k x h = cc
greatest_holds {A} f (y ∷ xs) k x h = grind (arith, nat_tests, greatest_holds f xs)

end_record : (header : Header) (n : ℕ) (v : Var) → is_record header v ≡ true → 0 < n → end_of_var header n v ≡ v.begin + (n - 1) * recsize header + last_share header v
end_record header n v e h = grind (arith, nat_tests)

for_record : (header : Header) (v : Var) (index : List ℕ) → is_record header v ≡ true → records_for header v index ≡ record_of index + 1
for_record header v index e = ap (λ (t : Bool). cond t (record_of index + 1) 0) e

before_end_of_var : (header : Header) (v : Var) (index : List ℕ) (n : ℕ) → IsElement header v index → records_for header v index ≤ n
    → place header v index + size_of v.kind ≤ end_of_var header n v
before_end_of_var header v index n h l = elim (holds_or_not (is_record header v)) [
  | inl e ↦
      let r = for_record header v index e in
      let last = mul-le (record_of index) (recsize header) (n - 1) (recsize header) (omega arith) (omega arith) in
      omega (arith, last, place_record header v index e, end_record header n v e (omega arith), in_slab header v (within_record index) (index_record header v index e h).1, slab_shared header v)
  | inr e ↦ omega (arith, place_fixed header v index e, end_fixed header n v e, in_slab header v index (index_fixed header v index e h), slab_below header v)
]

pub before_end : (header : Header) (first k : ℕ) (v : Var) (index : List ℕ) (n : ℕ) → slice_get header.vars k ≡ Some v → IsElement header v index
    → records_for header v index ≤ n → place header v index + size_of v.kind ≤ end_of header first n
before_end header first k v index n h e l = grind (arith, nat_tests, before_end_of_var header v index n e l, greatest_holds)

-- ---- a sound header's file

greatest_below : {A : Type 0} (f : A → ℕ) (xs : List A) (n : ℕ) → 0 < n → ((k : ℕ) (x : A) → slice_get xs k ≡ Some x → f x < n) → greatest (map f xs) < n
greatest_below f [] n pos h = pos
greatest_below f (x ∷ xs) n pos h = grind (arith, nat_tests, h 0 x refl, greatest_below f xs n pos (λ k y g. h (suc k) y g))

var_end : (header : Header) (k : ℕ) (v : Var) (n : ℕ) → is_sound header ≡ true → slice_get header.vars k ≡ Some v → n ≤ header.records → end_of_var header n v < 2 ^ 62
var_end header k v n h g l =
    grind (arith, nat_tests, var_kept header k v h g, holds_or_not (is_record header v), end_record header n v, end_fixed header n v)

pub sound_end : (header : Header) (n : ℕ) → is_sound header ≡ true → n ≤ header.records → end_of header (header_len header) n < 2 ^ 62
sound_end header n h l = grind (arith, nat_tests, greatest_below (λ v. end_of_var header n v) header.vars (2 ^ 62), var_end header, header_short)
