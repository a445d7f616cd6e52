-- Elements end within the file, and an index below the known lengths is an element.
use Rattle.serial_spec.proofs.Words.{◌≡◌, ℕ, ◌+◌, ◌-◌, ◌*◌, ◌<◌, ◌≤◌, refl, ap, List, [], ◌∷◌, map, drop, Bool, true, false, cond, Some, None, arith, mul-le-mul_right, nat_tests, position_from-zero, list_any, position_from, AllByRecursion, slice_get, ◌==◌, if◌then◌else◌, and_second, equal_suc, both_none, none_of_test, none_before_map, Header, Var, size_of, greatest, length_of, lengths, is_record, slab, vsize, recsize, last_share, end_of_var, end_of, place, record_of, IsIndex, IsElementBelow, record_later, is_record_id, is_sound, known_lengths, entry_map, fails_each, each_map, holds_or_not, common_steps}
use Rattle.serial_spec.proofs.ApartLaws.{span_fixed, span_record}

-- ---- the end of a file

pub greatest_holds : (ns : List ℕ) (k n : ℕ) → slice_get ns k ≡ Some n → n ≤ greatest ns
greatest_holds [] k n h = absurd cc
greatest_holds (m ∷ ns) k n h = grind (arith, nat_tests, greatest_holds ns)

pub end_holds : (header : Header) (first n k : ℕ) (v : Var) → slice_get header.vars k ≡ Some v → end_of_var header n v ≤ end_of header first n
end_holds header first n k v h = grind (arith, nat_tests, greatest_holds (map (λ w. end_of_var header n w) header.vars) k (end_of_var header n v), entry_map (λ w. end_of_var header n w) header.vars k v h)

pub slab_below : (header : Header) (v : Var) → slab header v ≤ vsize header v
slab_below header v = omega arith

pub slab_shared : (header : Header) (v : Var) → slab header v ≤ last_share header v
slab_shared header v = grind (arith, nat_tests, slab_below)

pub end_fixed : (header : Header) (n : ℕ) (v : Var) → is_record header v ≡ false → end_of_var header n v ≡ v.begin + vsize header v
end_fixed header n v e = ap (λ (t : Bool). cond t (cond (n == 0) 0 (v.begin + (n - 1) * recsize header + last_share header v)) (v.begin + vsize header v)) e

pub some_record : (r n : ℕ) → r < n → (n == 0) ≡ false
some_record r n h = grind (arith, nat_tests)

-- an element in a record below n ends within the file of n records
pub element_inside : (header : Header) (first n k : ℕ) (v : Var) (index : List ℕ) → slice_get header.vars k ≡ Some v → IsElementBelow header v n index
    → place header v index + size_of v.kind ≤ end_of header first n
element_inside header first n k v index h p =
    let whole = end_holds header first n k v h in
    grind (arith, common_steps, holds_or_not (is_record header v), span_fixed header v index, slab_below header v, end_fixed header n v, span_record header v index, slab_shared header v, some_record (record_of index) n)

-- ---- the end grows with the records

greatest_grows : (f g : Var → ℕ) → ((v : Var) → f v ≤ g v) → (vs : List Var) → greatest (map f vs) ≤ greatest (map g vs)
greatest_grows f g h [] = omega arith
greatest_grows f g h (v ∷ vs) = let a = h v in let b = greatest_grows f g h vs in omega arith

pub end_grows : (header : Header) (first n m : ℕ) → n ≤ m → end_of header first n ≤ end_of header first m
end_grows header first n m h = grind (arith, nat_tests, greatest_grows, end_fixed, mul-le-mul_right)

-- ---- an index below the known lengths

-- the record dimension's length is the known count
abbrev pub known_of : ℕ → ℕ → ℕ
known_of known n = if n == 0 then known else n

none_known : (known : ℕ) (ns : List ℕ) → AllByRecursion (λ n. (n == 0) ≡ false) ns → map (known_of known) ns ≡ ns
none_known known [] h = refl
none_known known (n ∷ ns) h = grind (arith, nat_tests, none_known known ns h.1)

-- ---- the record dimension stands only first

pub untested : {A : Type 0} (test : A → Bool) (n : ℕ) (xs : List A) (k : ℕ) (x : A) → position_from test n xs ≡ None → slice_get xs k ≡ Some x → test x ≡ false
untested test n [] k x h g = absurd cc
untested test n (y ∷ xs) k x h g = grind (arith, nat_tests, untested test (n + 1) xs)

later_some : (header : Header) (ids : List ℕ) → list_any (λ id. is_record_id header id) (drop 1 ids) ≡ false
    → AllByRecursion (λ n. (n == 0) ≡ false) (drop 1 (map (λ id. length_of (slice_get header.dims id)) ids))
later_some header [] h = tt
later_some header (id ∷ ids) h = grind (arith, common_steps, each_map (λ n. (n == 0) ≡ false) (λ id. length_of (slice_get header.dims id)) ids, fails_each (λ id. is_record_id header id) ids h)

-- no length but the first is that of the record dimension
pub none_later : (header : Header) (k : ℕ) (v : Var) → is_sound header ≡ true → slice_get header.vars k ≡ Some v
    → AllByRecursion (λ n. (n == 0) ≡ false) (drop 1 (lengths header v))
none_later header k v h g =
    grind (arith, common_steps, none_of_test, and_second, both_none, none_before_map, later_some header v.dims, position_from-zero, untested (record_later header) 0 header.vars k v)

pub index_is_element : (header : Header) (k : ℕ) (v : Var) (known : ℕ) (index : List ℕ) → is_sound header ≡ true → slice_get header.vars k ≡ Some v
    → IsIndex (known_lengths header v known) index → IsElementBelow header v known index
index_is_element header k v known index h g p = grind (arith, nat_tests, none_later header k v h g, none_known, equal_suc)
