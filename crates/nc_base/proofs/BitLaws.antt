-- Patterns of one step, one more of them, and those that don't wrap.
use Rattle.nc_base.proofs.Words.{◌≡◌, ℕ, zero, suc, ◌+◌, ◌-◌, ◌<◌, refl, ◌∙◌, List, [], ◌∷◌, ◌++◌, length, map, arith, ◌*◌, ◌%◌, ◌^◌, range_with_len, length-map, length-range_with_len, map-range_with_len_more, mul-le-mul_left, BitRun, bit_steps, bits_of_run, bits_of_runs, nat_tests}
use Rattle.nc_base.proofs.RunLists as lists

-- a run, as RunLists has it
abbrev pub pattern : BitRun → ℕ → ℕ
pattern r k = (r.first + r.step * k) % 2 ^ 64

abbrev pub count : BitRun → ℕ
count r = r.count

pub length_bit_steps : (a b : ℕ) (n : ℕ) → length (bit_steps a b n) ≡ n
length_bit_steps a b n = length-map (range_with_len 0 n) (λ k. (a + b * k) % 2 ^ 64) ∙ length-range_with_len 0 n

pub bit_steps_more : (a b : ℕ) (n : ℕ) → bit_steps a b (n + 1) ≡ bit_steps a b n ++ ((a + b * n) % 2 ^ 64) ∷ []
bit_steps_more a b n = map-range_with_len_more (λ k. (a + b * k) % 2 ^ 64) 0 n n (omega arith)

pub runs_push : (rs : List BitRun) (r : BitRun) → bits_of_runs (rs ++ r ∷ []) ≡ bits_of_runs rs ++ bits_of_run r
runs_push rs r = lists.runs_push pattern count rs r

pub length_after : (zs : List ℕ) (r : BitRun) → length (zs ++ bits_of_run r) ≡ length zs + r.count
length_after zs r = lists.length_after pattern count zs r

pub single : (rs new : List BitRun) (x : ℕ) → x < 2 ^ 64 → new ≡ rs ++ record { first = x; step = 0; count = 1 } ∷ [] → bits_of_runs new ≡ bits_of_runs rs ++ x ∷ []
single rs new x small e = grind (arith, nat_tests, runs_push, bits_of_runs)

small : (x : ℕ) → x < 2 ^ 64 → x % 2 ^ 64 ≡ x
small x h = omega (arith, h)

unwrapped : (a b s n : ℕ) → ((k : ℕ) → k < s + n → a + b * k < 2 ^ 64) → map (λ k. (a + b * k) % 2 ^ 64) (range_with_len s n) ≡ map (λ k. a + b * k) (range_with_len s n)
unwrapped a b s zero h = refl
unwrapped a b s (suc n) h = grind (arith, nat_tests, small (a + b * s), unwrapped a b (s + 1) n)

-- a sequence whose last pattern has 64 bits
pub no_wrap : (a b n : ℕ) → a + b * (n - 1) < 2 ^ 64 → bit_steps a b n ≡ map (λ k. a + b * k) (range_with_len 0 n)
no_wrap a b n last = grind (arith, nat_tests, unwrapped, mul-le-mul_left, bit_steps, range_with_len)
