-- A test of each number below a bound.
use Rattle.serial_spec.proofs.Words.{◌≡◌, ◌≤◌, ◌<◌, ◌+◌, ℕ, zero, suc, arith, Bool, true, nat_tests, list_all, range_with_len, and_first, and_second}

each_passes : (test : ℕ → Bool) (a n : ℕ) → list_all test (range_with_len a n) ≡ true → (x : ℕ) → a ≤ x → x < a + n → test x ≡ true
each_passes test a zero h x low high = absurd (omega (arith, low, high))
each_passes test a (suc n) h x low high = grind (arith, nat_tests, each_passes test (a + 1) n, and_second, and_first)

pub each_below : (test : ℕ → Bool) (n : ℕ) → list_all test (range_with_len 0 n) ≡ true → (x : ℕ) → x < n → test x ≡ true
each_below test n h x low = each_passes test 0 n h x (omega arith) (omega (arith, low))
