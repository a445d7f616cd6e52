-- What digits, decimal and hexadecimal, come to at most.
use Rattle.script_spec.proofs.Words.{◌≡◌, ℕ, zero, suc, ◌+◌, ◌-◌, ◌*◌, ◌^◌, ◌≤◌, ◌<◌, List, [], ◌∷◌, length, fold, true, Some, None, nat_lt, nat_le, refl, subst, arith, leb-true, ◌&&◌, Option, list_all, common_steps, cond_some, and_first, and_second, is_digit, is_digits, digits_value, natural_of, hex_sum, below, size_of_text, nat_tests}

abbrev pub tens : ℕ → ℕ
tens zero = 1
tens (suc n) = 10 * tens n

tens-le : (i k j : ℕ) → k + i ≡ j → tens i ≤ tens j
tens-le i zero j e = let same : i ≡ j = omega arith in rw same (omega arith)
tens-le i (suc k) j e = let more : suc (k + i) ≡ j = omega arith in rw (← more) (omega (arith, tens-le i k (k + i) refl))

pub tens-fits : (i : ℕ) → i ≤ 20 → tens i ≤ 10 ^ 20
tens-fits i h = tens-le i (20 - i) 20 (omega arith)

pub digit_bounds : (d : ℕ) → is_digit d ≡ true → (48 ≤ d) × (d ≤ 57)
digit_bounds d h = grind (arith, common_steps)

digits_below : (ds : List ℕ) (n k : ℕ) → list_all is_digit ds ≡ true → n < tens k → fold (λ m d. 10 * m + (d - 48)) n ds < tens (k + length ds)
digits_below [] n k all h = let same : k ≡ k + 0 = omega arith in subst (λ (i : ℕ). n < tens i) same h
digits_below (d ∷ ds) n k all h =
    grind (arith, nat_tests, fold, digits_below ds (10 * n + (d - 48)) (suc k) (and_second (is_digit d) (list_all is_digit ds) all), and_second, tens, is_digit, list_all)

pub natural_small : (ds : List ℕ) (n : ℕ) → natural_of ds ≡ Some n → n < 10 ^ 20
natural_small ds n h =
    let k = cond_some (is_digits ds) (digits_value ds) n h in
    grind (arith, nat_tests, leb-true (length ds) 20, and_second (nat_lt 0 (length ds)) (nat_le (length ds) 20), nat_lt 0 (length ds), nat_le (length ds) 20, and_first (nat_lt 0 (length ds) && nat_le (length ds) 20) (list_all is_digit ds) k.0, digits_below ds 0 0 (and_second (nat_lt 0 (length ds) && nat_le (length ds) 20) (list_all is_digit ds) k.0), and_second (nat_lt 0 (length ds) && nat_le (length ds) 20) (list_all is_digit ds) k.0, tens-fits (length ds), k.1, digits_value, tens, list_all, is_digit)

-- ---- hexadecimal digits

abbrev pub sixteens : ℕ → ℕ
sixteens zero = 1
sixteens (suc n) = 16 * sixteens n

pub sixteens-le : (i k j : ℕ) → k + i ≡ j → sixteens i ≤ sixteens j
sixteens-le i zero j e = let same : i ≡ j = omega arith in rw same (omega arith)
sixteens-le i (suc k) j e = let more : suc (k + i) ≡ j = omega arith in rw (← more) (omega (arith, sixteens-le i k (k + i) refl))

pub no_sum : (hs : List ℕ) → fold hex_sum None hs ≡ None
no_sum [] = refl
no_sum (h ∷ hs) = no_sum hs

pub below_read : (limit : ℕ) (o : Option ℕ) (n : ℕ) → below limit o ≡ Some n → n < limit
below_read limit o n h = grind (arith, nat_tests)

pub size_read : (w : List ℕ) (n : ℕ) → size_of_text w ≡ Some n → n < 2 ^ 63
size_read w n h = below_read (2 ^ 63) (natural_of w) n h
