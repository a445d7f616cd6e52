-- The terms of a sequence lie between its first and its last, so that what holds of these two holds of them.
use Rattle.script_laws.proofs.Words.{◌≡◌, ◌∙◌, ℕ, zero, suc, ◌+◌, ◌*◌, ◌^◌, ◌≤◌, ◌<◌, Bool, true, nat_lt, ◌&&◌, Option, ℤ, pos, negsuc, neg_ℤ, ◌+ℤ◌, ◌*ℤ◌, unsigned_abs, refl, arith, list_all, range_with_len, and_from, ints, NcType, sequence, last_number, is_term, last_pattern, is_pattern_term, nat_tests}
use Rattle.list_laws.proofs.Std.{◌-◌, list_all-map}
use Rattle.script_spec.proofs.Common.{may_have, pattern_sequence}
use lib.Signed.{◌≤ℤ◌}
use native.Mathlib.Nat.{mul-le-mul_left}
use Rattle.nc_base.specs.declared.request.Value.TheVariants as value

-- a number that may stand here, and has few digits
abbrev pub is_fit_number : Option NcType → ℤ → Bool
is_fit_number t z = nat_lt (unsigned_abs z) (10 ^ 20) && may_have t (value.Number z)

abbrev pub is_fit_pattern : Option NcType → ℕ → Bool
is_fit_pattern t n = nat_lt n (2 ^ 64) && may_have t (value.Bits n)

-- ---- what is nearer to zero fits too

between : (t : Option NcType) (a z c : ℤ) → a ≤ℤ z → z ≤ℤ c → is_fit_number t a ≡ true → is_fit_number t c ≡ true → is_fit_number t z ≡ true
between t a z c low high h k = grind (arith, nat_tests)

-- ---- terms of a sequence of numbers

back : (t : Option NcType) (a : ℤ) (p q : ℕ) → p ≤ q → is_fit_number t a ≡ true → is_fit_number t (a +ℤ neg_ℤ (pos q)) ≡ true → is_fit_number t (a +ℤ neg_ℤ (pos p)) ≡ true
back t a p q le h k = between t (a +ℤ neg_ℤ (pos q)) (a +ℤ neg_ℤ (pos p)) a (omega (arith, ints)) (omega (arith, ints)) k h

term_fits : (t : Option NcType) (a b : ℤ) (k n : ℕ) → k ≤ n → is_fit_number t a ≡ true → is_fit_number t (a +ℤ (b *ℤ pos n)) ≡ true → is_fit_number t (a +ℤ (b *ℤ pos k)) ≡ true
term_fits t a (pos x) k n le first last = grind (arith, nat_tests, mul-le-mul_left x le, between)
term_fits t a (negsuc x) k n le first last = back t a (suc x * k) (suc x * n) (mul-le-mul_left (suc x) le) first last

all_range : (p : ℕ → Bool) (a n m : ℕ) → a + n ≡ m → ((k : ℕ) → k < m → p k ≡ true) → list_all p (range_with_len a n) ≡ true
all_range p a zero m e each = refl
all_range p a (suc n) m e each = and_from _ _ (each a (omega arith)) (all_range p (a + 1) n m (omega arith) each)

pub numbers_fit : (t : Option NcType) (a b : ℤ) (n : ℕ) → is_term t n a ≡ true → is_term t n (last_number a b n) ≡ true → list_all (is_fit_number t) (sequence a b n) ≡ true
numbers_fit t a b zero first last = refl
numbers_fit t a b (suc n) first last =
    let least : is_fit_number t a ≡ true = grind (arith, nat_tests) in
    let most : is_fit_number t (last_number a b (suc n)) ≡ true = grind (arith, nat_tests) in
    list_all-map (is_fit_number t) (λ k. a +ℤ (b *ℤ pos k)) (range_with_len 0 (suc n))
    ∙ all_range (λ k. is_fit_number t (a +ℤ (b *ℤ pos k))) 0 (suc n) (suc n) (omega arith) (λ k low. term_fits t a b k (suc n - 1) (omega arith) least most)

-- ---- terms of a sequence of bits

bits_fit : (t : Option NcType) (m n : ℕ) → m ≤ n → is_fit_pattern t n ≡ true → is_fit_pattern t m ≡ true
bits_fit t m n le h = grind (arith, nat_tests)

pub patterns_fit : (t : Option NcType) (a b n : ℕ) → is_pattern_term t n (last_pattern a b n) ≡ true → list_all (is_fit_pattern t) (pattern_sequence a b n) ≡ true
patterns_fit t a b zero last = refl
patterns_fit t a b (suc n) last =
    let most : is_fit_pattern t (last_pattern a b (suc n)) ≡ true = grind (arith, nat_tests) in
    list_all-map (is_fit_pattern t) (λ k. a + b * k) (range_with_len 0 (suc n))
    ∙ all_range (λ k. is_fit_pattern t (a + b * k)) 0 (suc n) (suc n) (omega arith)
    (λ k low. bits_fit t (a + b * k) (a + b * (suc n - 1)) (let le : b * k ≤ b * (suc n - 1) = mul-le-mul_left b (omega arith) in omega arith) most)
