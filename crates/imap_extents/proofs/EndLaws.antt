-- Whether values of equal steps are in a type's range is seen at their ends.
use Rattle.imap_extents.proofs.Cited.{◌≡◌, ℕ, zero, suc, ◌+◌, ◌*◌, ◌^◌, ◌<◌, ◌≤◌, refl, ◌∙◌, ap, map, Bool, true, false, not, arith, pos, negsuc, ◌≤ℤ◌, ◌+ℤ◌, ◌*ℤ◌, ◌%◌, list_any, range_with_len, not-false, not_from_true, nat_tests, ints, neg_ℤ, mul-le-mul_left, NcType, Value, Class, class_of, size_of, fits_in, fits}
use Rattle.std.proofs.Common.{ℤ}
use Rattle.nc_base.specs.declared.request.Value.TheVariants as value
use Rattle.type_external.proofs.PatternLaws.{bits_in}
use Rattle.imap_extents.proofs.RunLaws.{step_hit}

none_hit : (test : Value → Bool) (at : ℕ → Value) (s n : ℕ) → ((k : ℕ) → s ≤ k → k < s + n → test (at k) ≡ false) → list_any test (map at (range_with_len s n)) ≡ false
none_hit test at s zero h = refl
none_hit test at s (suc n) h = grind (arith, nat_tests, none_hit test at (s + 1) n)

pub hit_at : (test : Value → Bool) (at : ℕ → Value) (n k : ℕ) → k < n → test (at k) ≡ true → list_any test (map at (range_with_len 0 n)) ≡ true
hit_at test at n k h hit = grind (arith, nat_tests, step_hit test at 0 n k h)

-- the last value decides
pub by_last : (test : Value → Bool) (at : ℕ → Value) (n m : ℕ) → n ≡ m + 1 → ((k : ℕ) → k ≤ m → test (at m) ≡ false → test (at k) ≡ false)
    → list_any test (map at (range_with_len 0 n)) ≡ test (at m)
by_last test at n m count h =
    let none : test (at m) ≡ false → list_any test (map at (range_with_len 0 n)) ≡ false = λ e. none_hit test at 0 n (λ k low high. h k (omega (arith, count, high)) e) in
    grind (arith, nat_tests, hit_at test at n m)

-- ---- numbers

-- of numbers of one step each is between the first and the last
number_fits : (class : Class) (size : ℕ) (a b : ℤ) (k m : ℕ) → k ≤ m → fits_in class size (value.Number (a +ℤ (b *ℤ pos 0))) ≡ true
    → fits_in class size (value.Number (a +ℤ (b *ℤ pos m))) ≡ true → fits_in class size (value.Number (a +ℤ (b *ℤ pos k))) ≡ true
number_fits class size a (pos b) k m le first last =
    let low : (a +ℤ pos (b * 0)) ≤ℤ (a +ℤ pos (b * k)) = omega (arith, ints) in
    let high : (a +ℤ pos (b * k)) ≤ℤ (a +ℤ pos (b * m)) = omega (arith, ints, mul-le-mul_left b le) in
    grind (arith, nat_tests, low, high)
number_fits class size a (negsuc b) k m le first last =
    let low : (a +ℤ neg_ℤ (pos (suc b * m))) ≤ℤ (a +ℤ neg_ℤ (pos (suc b * k))) = omega (arith, ints, mul-le-mul_left (suc b) le) in
    let high : (a +ℤ neg_ℤ (pos (suc b * k))) ≤ℤ (a +ℤ neg_ℤ (pos (suc b * 0))) = omega (arith, ints) in
    grind (arith, nat_tests, low, high)

pub numbers_by_last : (kind : NcType) (a b : ℤ) (n m : ℕ) → n ≡ m + 1 → not (fits kind (value.Number (a +ℤ (b *ℤ pos 0)))) ≡ false
    → list_any (λ v. not (fits kind v)) (map (λ k. value.Number (a +ℤ (b *ℤ pos k))) (range_with_len 0 n)) ≡ not (fits kind (value.Number (a +ℤ (b *ℤ pos m))))
numbers_by_last kind a b n m count first =
    by_last (λ v. not (fits kind v)) (λ k. value.Number (a +ℤ (b *ℤ pos k))) n m count
    (λ k le last. not_from_true _ (number_fits (class_of kind) (size_of kind) a b k m le (not-false _ first) (not-false _ last)))

-- ---- bit patterns
pattern_fits : (class : Class) (size a b k m : ℕ) → k ≤ m → a + b * m < 2 ^ 64 → fits_in class size (value.Bits ((a + b * m) % 2 ^ 64)) ≡ true → fits_in class size (value.Bits ((a + b * k) % 2 ^ 64)) ≡ true
pattern_fits class size a b k m le small h =
    grind (arith, nat_tests, bits_in class size ((a + b * k) % 2 ^ 64) ((a + b * m) % 2 ^ 64) (omega (arith, small, (mul-le-mul_left b le))) h)

pub patterns_by_last : (kind : NcType) (a b n m last : ℕ) → n ≡ m + 1 → last ≡ a + b * m → last < 2 ^ 64
    → list_any (λ v. not (fits kind v)) (map (λ k. value.Bits ((a + b * k) % 2 ^ 64)) (range_with_len 0 n)) ≡ not (fits kind (value.Bits last))
patterns_by_last kind a b n m last count is small =
    let whole : (a + b * m) % 2 ^ 64 ≡ last = omega (arith, is, small) in
    by_last (λ v. not (fits kind v)) (λ k. value.Bits ((a + b * k) % 2 ^ 64)) n m count
    (λ k le fit. not_from_true _ (pattern_fits (class_of kind) (size_of kind) a b k m le (omega (arith, is, small)) (not-false _ fit)))
    ∙ ap (λ (p : ℕ). not (fits kind (value.Bits p))) whole
