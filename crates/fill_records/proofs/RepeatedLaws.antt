-- A value's bytes over and over.
use Rattle.fill_records.proofs.Words.{◌≡◌, ℕ, zero, suc, ◌+◌, ◌-◌, ◌*◌, ◌%◌, ◌<◌, ◌≤◌, refl, sym, ◌∙◌, ap, List, ◌++◌, length, take, drop, get_or, arith, slice_index, repeat, each_same, AllZip, add-mod_right, add-mod-mod, mod-eq_of_lt, same_number_lists, drop_at, length-map-range_with_len, get_or-map-range_with_len, repeated, nat_tests, common_steps}

pub repeated_long : (value : List ℕ) (from len : ℕ) → length (repeated value from len) ≡ len
repeated_long value from len = length-map-range_with_len (λ (i : ℕ). slice_index value (i % length value)) from len

pub at_repeated : (value : List ℕ) (from len i : ℕ) → i < len → get_or (repeated value from len) i 0 ≡ get_or value ((from + i) % length value) 0
at_repeated value from len i h = get_or-map-range_with_len (λ (j : ℕ). slice_index value (j % length value)) from len i (from + i) 0 h refl

pub repeated_more : (value : List ℕ) (from m n : ℕ) → repeated value from (m + n) ≡ repeated value from m ++ repeated value (from + m) n
repeated_more value from zero n = grind (arith, nat_tests)
repeated_more value from (suc m) n =
    let one : suc m + n ≡ suc (m + n) = omega arith in
    grind (arith, nat_tests, repeated_more value (from + 1) m n, repeated)

-- two places that stand at one byte of the value
pub same_phase : (value : List ℕ) (a b n : ℕ) → a % length value ≡ b % length value → repeated value a n ≡ repeated value b n
same_phase value a b n e =
    same_number_lists (repeated value a n) (repeated value b n) (repeated_long value a n ∙ sym (repeated_long value b n))
    (λ k h. grind (arith, nat_tests, repeated_long value a n, at_repeated value a n k, at_repeated value b n k, add-mod-mod k a (length value), add-mod-mod k b (length value), e))

pub once : (value : List ℕ) → repeated value 0 (length value) ≡ value
once value = grind (arith, nat_tests, repeated_long value 0 (length value), same_number_lists, at_repeated, mod-eq_of_lt)

-- one value, and more
pub value_first : (value : List ℕ) (n m : ℕ) → m ≡ length value + n → value ++ repeated value 0 n ≡ repeated value 0 m
value_first value n m e = grind (arith, nat_tests, once value, repeated_more value 0 (length value) n, add-mod_right 0 (length value), same_phase)

pub copies : (value : List ℕ) (n : ℕ) → repeat n value ≡ repeated value 0 (n * length value)
copies value zero = let none : 0 ≡ zero * length value = omega arith in ap (λ (k : ℕ). repeated value 0 k) none
copies value (suc n) = grind (arith, nat_tests, copies value n, value_first value (n * length value) (suc n * length value) (omega arith))

-- some of the copies
pub part_of_copies : (value : List ℕ) (k n m : ℕ) → k + n ≤ m → take n (drop k (repeated value 0 m)) ≡ repeated value k n
part_of_copies value k n m h =
    grind (arith, common_steps, repeated_more value 0 k (n + (m - k - n)), drop_at (repeated value 0 k) (repeated value (0 + k) (n + (m - k - n))) k (repeated_long value 0 k), repeated_long value 0 k, repeated_more value k n (m - k - n), repeated_long value k n)

-- the copies that the code makes, where a clone of a byte is the byte
pub all_copies : (value made : List ℕ) (n : ℕ) → AllZip (λ x y. y ≡ x) (repeat n value) made → made ≡ repeated value 0 (length made)
all_copies value made n h = grind (arith, nat_tests, each_same (repeat n value) made h, copies value n, repeated_long value 0 (n * length value))
