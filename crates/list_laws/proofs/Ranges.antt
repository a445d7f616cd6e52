-- Numbers one after another.
use Rattle.list_laws.proofs.Words.{◌≡◌, ℕ, zero, suc, ◌+◌, ◌*◌, ◌∙◌, ap, refl, List, ◌∷◌, ◌++◌, length, arith, [], ◌<◌, ◌≤◌, Some, Bool, false, leb, flat_map, slice_get, list_any, range_with_len, or_from, lt-leb, length-range_with_len, nat_tests, length-append}

pub range_append : (a m n : ℕ) → range_with_len a (m + n) ≡ range_with_len a m ++ range_with_len (a + m) n
range_append a zero n = grind (arith, nat_tests)
range_append a (suc m) n =
    let more : suc m + n ≡ suc (m + n) = omega arith in
    grind (arith, nat_tests, range_append (a + 1) m n, range_with_len)

-- as many from each number
pub pieces_long : {A : Type 0} (f : ℕ → List A) (m : ℕ) → ((k : ℕ) → length (f k) ≡ m) → (a n : ℕ) → length (flat_map f (range_with_len a n)) ≡ n * m
pieces_long f m h a zero = omega arith
pieces_long f m h a (suc n) = omega (arith, h a, pieces_long f m h (a + 1) n, length-append (f a) (flat_map f (range_with_len (a + 1) n)))

pub range_push : (a k b : ℕ) → a + k ≡ b → range_with_len a (suc k) ≡ range_with_len a k ++ b ∷ []
range_push a k b e = grind (arith, nat_tests, range_append a k 1)

pub range_next : (n : ℕ) → range_with_len 0 (n + 1) ≡ range_with_len 0 n ++ n ∷ []
range_next n = let next : n + 1 ≡ suc n = omega arith in ap (λ (k : ℕ). range_with_len 0 k) next ∙ range_push 0 n n (omega arith)

pub spans_long : (size : ℕ) (xs : List ℕ) → length (flat_map (λ x. range_with_len x size) xs) ≡ length xs * size
spans_long size [] = omega arith
spans_long size (x ∷ xs) = grind (arith, nat_tests, spans_long size xs, length-append, length-range_with_len)

pub range_first : (a n : ℕ) (ys : List ℕ) (i : ℕ) → i < n → slice_get (range_with_len a n ++ ys) i ≡ Some (a + i)
range_first a zero ys i h = absurd (omega arith)
range_first a (suc n) ys i h = grind (arith, nat_tests, range_first (a + 1) n ys)

pub range_rest : (a n : ℕ) (ys : List ℕ) (j x : ℕ) → slice_get ys j ≡ Some x → slice_get (range_with_len a n ++ ys) (n + j) ≡ Some x
range_rest a zero ys j x h = let same : 0 + j ≡ j = omega arith in ap (λ (k : ℕ). slice_get ys k) same ∙ h
range_rest a (suc n) ys j x h = grind (arith, nat_tests, range_rest (a + 1) n ys j x h)

-- none of these passes
pub none_in_range : (test : ℕ → Bool) (a n : ℕ) → ((i : ℕ) → i < n → test (a + i) ≡ false) → list_any test (range_with_len a n) ≡ false
none_in_range test a zero h = refl
none_in_range test a (suc n) h = grind (arith, nat_tests, or_from, h 0, none_in_range test (a + 1) n (λ i l. grind (arith, nat_tests, h (suc i))))

-- none of these reaches the bound
pub all_below : (c k n : ℕ) → k + n ≤ c → list_any (λ m. leb c m) (range_with_len k n) ≡ false
all_below c k n h = none_in_range (λ m. leb c m) k n (λ i l. lt-leb c (k + i) (omega arith))
