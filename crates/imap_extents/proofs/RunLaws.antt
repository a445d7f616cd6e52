-- The first values of runs, one run more of them.
use Rattle.imap_extents.proofs.Cited.{◌≡◌, ℕ, zero, suc, ◌+◌, ◌-◌, ◌<◌, refl, ap, arith, List, [], ◌∷◌, ◌++◌, length, map, take, drop, get_or, append-nil, append_assoc, length-append, Bool, true, false, flat_map, min, ◌*ℤ◌, ◌%◌, list_any, range_with_len, take_more, map-append, take-append-drop, take-map, flat_map-append, flat_map-map, list_any-append, length-map-range_with_len, map-range_with_len_more, any_map, map_map, BitRun, NumberRun, Value, numbers_of_runs, bits_of_runs, nat_tests}
use Rattle.std.specs.Prelude.{pos, ◌+ℤ◌, ◌*◌, ◌^◌}
use Rattle.nc_base.specs.declared.request.Value.TheVariants as value

-- the values of runs
abbrev pub told : {R : Type 0} (at : R → ℕ → Value) (size : R → ℕ) → List R → List Value
told at size rs = flat_map (λ r. map (at r) (range_with_len 0 (size r))) rs

pub none_first : {A : Type 0} (n : ℕ) → take {A = A} n [] ≡ []
none_first n = grind (arith, nat_tests)

first_range : {A : Type 0} (f : ℕ → A) (s n m k : ℕ) → k ≡ min n m → take m (map f (range_with_len s n)) ≡ map f (range_with_len s k)
first_range {A} f s (suc n) (suc m) k e =
    let more : suc (min n m) ≡ k = omega (arith, e) in
    grind (arith, nat_tests, first_range f (s + 1) n m (min n m), range_with_len)
first_range f s n m k e = grind (arith, nat_tests, none_first)

first_of_both : {A : Type 0} (xs ys : List A) (n : ℕ) → take n (xs ++ ys) ≡ take n xs ++ take (n - length xs) ys
first_of_both xs ys zero = let none : 0 ≡ 0 - length xs = omega arith in ap (λ (k : ℕ). take k ys) none
first_of_both [] ys (suc n) = let all : suc n ≡ suc n - 0 = omega arith in ap (λ (k : ℕ). take k ys) all
first_of_both {A} (x ∷ xs) ys (suc n) = grind (arith, nat_tests, first_of_both xs ys n)

one_run : {R : Type 0} (at : R → ℕ → Value) (size : R → ℕ) (rs : List R) (i : ℕ) (d : R) → i < length rs
    → told at size (take (i + 1) rs) ≡ told at size (take i rs) ++ map (at (get_or rs i d)) (range_with_len 0 (size (get_or rs i d)))
one_run {R} at size rs i d h = grind (arith, nat_tests, take_more rs i d h, flat_map-append, append-nil)

-- one run more, of which `here` values are among the first `count`
module _ {R : Type 0} (at : R → ℕ → Value) (size : R → ℕ) (rs : List R) (i count left here : ℕ) (d : R) (h : i < length rs)
    (rest : left ≡ count - length (told at size (take i rs))) (part : here ≡ min (size (get_or rs i d)) left) where
  first_more : take count (told at size (take (i + 1) rs)) ≡ take count (told at size (take i rs)) ++ map (at (get_or rs i d)) (range_with_len 0 here)
  first_more =
      let r = get_or rs i d in
      grind (arith, nat_tests, one_run at size rs i d h, first_of_both (told at size (take i rs)) (map (at r) (range_with_len 0 (size r))) count, first_range (at r) 0 (size r) left here part, take, told, range_with_len)

  pub forms_more : (f : Value → List ℕ) (old now new : List ℕ) → now ≡ old ++ flat_map f (take count (told at size (take i rs)))
      → new ≡ now ++ flat_map f (map (at (get_or rs i d)) (range_with_len 0 here)) → new ≡ old ++ flat_map f (take count (told at size (take (i + 1) rs)))
  forms_more f old now new before added = grind (arith, nat_tests, first_more, flat_map-append, append_assoc)

  pub fits_more : (test : Value → Bool) → list_any test (take count (told at size (take i rs))) ≡ false
      → list_any test (map (at (get_or rs i d)) (range_with_len 0 here)) ≡ false → list_any test (take count (told at size (take (i + 1) rs))) ≡ false
  fits_more test before now = rw (first_more, list_any-append, before) now

  pub rest_more : (later : ℕ) → later ≡ left - here → later ≡ count - length (told at size (take (i + 1) rs))
  rest_more later after = grind (arith, nat_tests, one_run at size rs i d h, length-append, length-map-range_with_len)

  -- a value that a part lacks, the whole lacks
  pub part_hit : (test : Value → Bool) → list_any test (map (at (get_or rs i d)) (range_with_len 0 here)) ≡ true → list_any test (take count (told at size rs)) ≡ true
  part_hit test hit =
      let next = told at size (take (i + 1) rs) in
      let later = told at size (drop (i + 1) rs) in
      let whole : told at size rs ≡ next ++ later = grind (arith, nat_tests, take-append-drop (i + 1) rs, flat_map-append (λ r. map (at r) (range_with_len 0 (size r))) (take (i + 1) rs)) in
      grind (arith, nat_tests, whole, first_of_both next later count, list_any-append, first_more)

pub step_fits : (test : Value → Bool) (at : ℕ → Value) (k : ℕ) → list_any test (map at (range_with_len 0 k)) ≡ false → test (at k) ≡ false
    → list_any test (map at (range_with_len 0 (k + 1))) ≡ false
step_fits test at k before now = rw (map-range_with_len_more at 0 k k (omega arith), list_any-append, before, now) refl

pub step_hit : (test : Value → Bool) (at : ℕ → Value) (s n k : ℕ) → k < n → test (at (s + k)) ≡ true → list_any test (map at (range_with_len s n)) ≡ true
step_hit test at s zero k h hit = absurd (omega arith)
step_hit test at s (suc n) k h hit = grind (arith, nat_tests, step_hit test at (s + 1) n (k - 1))

-- values of one kind
told_as : {R A : Type 0} (f : A → Value) (at : R → ℕ → A) (size : R → ℕ) (rs : List R)
    → told (λ r k. f (at r k)) size rs ≡ map f (flat_map (λ r. map (at r) (range_with_len 0 (size r))) rs)
told_as f at size [] = refl
told_as f at size (r ∷ rs) = grind (arith, nat_tests, told_as f at size rs, map-append, map_map)

pub told_numbers : (rs : List NumberRun) → told (λ (r : NumberRun) k. value.Number (r.first +ℤ (r.step *ℤ pos k))) (λ (r : NumberRun). r.count) rs ≡ map (λ z. value.Number z) (numbers_of_runs rs)
told_numbers rs = told_as (λ z. value.Number z) (λ (r : NumberRun) k. r.first +ℤ (r.step *ℤ pos k)) (λ (r : NumberRun). r.count) rs

pub told_bits : (rs : List BitRun) → told (λ (r : BitRun) k. value.Bits ((r.first + r.step * k) % 2 ^ 64)) (λ (r : BitRun). r.count) rs ≡ map (λ n. value.Bits n) (bits_of_runs rs)
told_bits rs = told_as (λ n. value.Bits n) (λ (r : BitRun) k. (r.first + r.step * k) % 2 ^ 64) (λ (r : BitRun). r.count) rs

pub kind_forms : {A : Type 0} (f : Value → List ℕ) (g : A → Value) (vs : List Value) (xs : List A) (n : ℕ) → vs ≡ map g xs → flat_map f (take n vs) ≡ flat_map (λ x. f (g x)) (take n xs)
kind_forms f g vs xs n is = rw (is, take-map g n xs) (flat_map-map f g (take n xs))

pub kind_unfit : {A : Type 0} (test : Value → Bool) (g : A → Value) (vs : List Value) (xs : List A) (n : ℕ) → vs ≡ map g xs → list_any test (take n vs) ≡ list_any (λ x. test (g x)) (take n xs)
kind_unfit test g vs xs n is = rw (is, take-map g n xs) (any_map test g (take n xs))
