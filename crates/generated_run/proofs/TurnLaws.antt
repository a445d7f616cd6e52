-- Rows of values that rise by one, and behind the greatest begin again at the least: one run, or two.
use Rattle.generated_run.proofs.Words.{◌≡◌, ℕ, zero, suc, ◌+◌, ◌-◌, ◌*◌, ◌^◌, ◌%◌, ◌<◌, ◌≤◌, List, [], ◌∷◌, ◌++◌, map, min, refl, sym, ap, ◌∙◌, append_assoc, map-append, range_append, arith, ℤ, ◌-ℤ◌, range_with_len, ints, flat_map-append, BitRun, NumberRun, bits_of_run, bits_of_runs, numbers_of_run, numbers_of_runs, precip_at, temp_at, depths, precip_row, temp_row, temps, nat_tests, append-nil, pos}

-- lists that agree value by value
maps_agree : {A : Type 0} (f g : ℕ → A) (a b n : ℕ) → ((k : ℕ) → k < n → f (a + k) ≡ g (b + k)) → map f (range_with_len a n) ≡ map g (range_with_len b n)
maps_agree f g a b zero same = refl
maps_agree {A} f g a b (suc n) same =
    let here : f a ≡ g b = ap f (omega arith) ∙ same 0 (omega arith) ∙ ap g (omega arith) in
    let later : (k : ℕ) → k < n → f (a + 1 + k) ≡ g (b + 1 + k) = λ k low. ap f (omega arith) ∙ same (k + 1) (omega (arith, low)) ∙ ap g (omega arith) in
    ap (λ (x : A). x ∷ map f (range_with_len (a + 1) n)) here ∙ ap (λ (xs : List A). g b ∷ xs) (maps_agree f g (a + 1) (b + 1) n later)

-- two parts of a row that go last
row_pushed : {A : Type 0} (f g h : ℕ → A) (front now : List A) (n m w : ℕ) → n + m ≡ w → ((k : ℕ) → k < n → f (0 + k) ≡ g (0 + k)) → ((k : ℕ) → k < m → f (0 + n + k) ≡ h (0 + k))
    → now ≡ front ++ map g (range_with_len 0 n) → now ++ map h (range_with_len 0 m) ≡ front ++ map f (range_with_len 0 w)
row_pushed f g h front now n m w all here behind first =
    grind (arith, nat_tests, append_assoc, range_append 0 n m, map-append f (range_with_len 0 n), maps_agree f g 0 0 n here, maps_agree f h (0 + n) 0 m behind)

-- ---- depths

pub precip_row_pushed : (front now : List ℤ) (seed t y first n : ℕ) → first ≡ (seed + 101 * t + 3 * y) % 20001 → n ≡ min 360 (20001 - first)
    → now ≡ front ++ depths first n → now ++ depths 0 (360 - n) ≡ front ++ precip_row seed t y
unfolding depths precip_row
precip_row_pushed front now seed t y first n e least one =
    row_pushed (precip_at seed t y) (λ k. pos (first + k) -ℤ pos 10000) (λ k. pos (0 + k) -ℤ pos 10000) front now n (360 - n) 360 (omega arith)
    (λ k low. ap (λ (j : ℕ). pos j -ℤ pos 10000) (omega arith)) (λ k low. ap (λ (j : ℕ). pos j -ℤ pos 10000) (omega arith)) one

depths_of_run : (first n : ℕ) → numbers_of_run (record { first = pos first -ℤ pos 10000; step = pos 1; count = n }) ≡ depths first n
unfolding depths
depths_of_run first n = grind (arith, nat_tests, maps_agree, ints)

pub no_depths : (now : List ℤ) (first n : ℕ) → n ≡ 0 → now ≡ now ++ depths first n
unfolding depths
no_depths now first n none = sym (append-nil now) ∙ ap (λ (k : ℕ). now ++ depths first k) (sym none)

pub depths_pushed : (old new : List NumberRun) (from : ℤ) (first n : ℕ) → from ≡ pos first -ℤ pos 10000 → new ≡ old ++ record { first = from; step = pos 1; count = n } ∷ []
    → numbers_of_runs new ≡ numbers_of_runs old ++ depths first n
depths_pushed old new from first n here pushed = grind (arith, nat_tests, flat_map-append, append-nil, depths_of_run)

-- ---- patterns

pub temp_row_pushed : (front now : List ℕ) (seed t y first n : ℕ) → first ≡ (seed + 64800 * t + 360 * y) % 2 ^ 23 → n ≡ min 360 (2 ^ 23 - first)
    → now ≡ front ++ temps first n → now ++ temps 0 (360 - n) ≡ front ++ temp_row seed t y
unfolding temps temp_row
temp_row_pushed front now seed t y first n e least one =
    row_pushed (temp_at seed t y) (λ k. 0x3F800000 + (first + k)) (λ k. 0x3F800000 + (0 + k)) front now n (360 - n) 360 (omega arith) (λ k low. omega arith) (λ k low. omega arith) one

temps_of_run : (first n : ℕ) → first + n ≤ 2 ^ 23 → bits_of_run (record { first = 0x3F800000 + first; step = 1; count = n }) ≡ temps first n
unfolding temps
temps_of_run first n within = grind (arith, nat_tests, maps_agree)

pub no_temps : (now : List ℕ) (first n : ℕ) → n ≡ 0 → now ≡ now ++ temps first n
unfolding temps
no_temps now first n none = sym (append-nil now) ∙ ap (λ (k : ℕ). now ++ temps first k) (sym none)

pub temps_pushed : (old new : List BitRun) (from first n : ℕ) → first + n ≤ 2 ^ 23 → from ≡ 0x3F800000 + first → new ≡ old ++ record { first = from; step = 1; count = n } ∷ []
    → bits_of_runs new ≡ bits_of_runs old ++ temps first n
temps_pushed old new from first n within here pushed = grind (arith, nat_tests, flat_map-append, append-nil, temps_of_run)
