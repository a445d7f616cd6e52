-- How long the lines are that are printed.
use Rattle.script_text.proofs.Words.{◌≡◌, ℕ, suc, ◌+◌, ◌*◌, ◌^◌, ◌≤◌, ◌<◌, List, [], ◌∷◌, ◌++◌, map, length, Bool, true, ℤ, pos, negsuc, unsigned_abs, length-append, arith, decimal, signed_decimal, list_all, and_parts, decimal_nonempty, length-decimal-le_wide, joined, line, size_list, nat_tests}

-- least and most
pub record Between (low high n : ℕ) : Type 0 where
  pub least : low ≤ n
  pub most : n ≤ high

pub both_long : (low high a b c d : ℕ) (x y : List ℕ) → Between a b (length x) → Between c d (length y) → low ≤ a + c → b + d ≤ high → Between low high (length (x ++ y))
both_long low high a b c d x y one two under over = record { least = omega (arith, length-append x y); most = omega (arith, length-append x y) }

-- the bytes of words, and one behind each
abbrev pub words_size : List (List ℕ) → ℕ
words_size [] = 0
words_size (w ∷ ws) = length w + 1 + words_size ws

joined_long : (c : ℕ) (w : List ℕ) (ws : List (List ℕ)) → length (joined c (w ∷ ws)) + 1 ≡ words_size (w ∷ ws)
joined_long c w [] = omega arith
joined_long c w (y ∷ ys) = omega (arith, length-append w (c ∷ joined c (y ∷ ys)), joined_long c y ys)

pub line_long : (w : List ℕ) (ws : List (List ℕ)) → length (line (w ∷ ws)) ≡ words_size (w ∷ ws)
line_long w ws = omega (arith, length-append (joined 32 (w ∷ ws)) (10 ∷ []), joined_long 32 w ws)

pub words_joined : (xs ys : List (List ℕ)) → words_size (xs ++ ys) ≡ words_size xs + words_size ys
words_joined [] ys = omega arith
words_joined (x ∷ xs) ys = omega (arith, words_joined xs ys)

-- ---- numbers

pub small_long : (n : ℕ) → n < 10 ^ 3 → length (decimal n) ≤ 3
small_long n h = length-decimal-le_wide 3 n (omega arith) h (omega arith)

pub number_long : (z : ℤ) → unsigned_abs z < 10 ^ 5 → Between 1 6 (length (signed_decimal z))
number_long (pos n) h = let d = length-decimal-le_wide 5 n (omega arith) h (omega arith) in record { least = decimal_nonempty n (omega arith); most = omega arith }
number_long (negsuc n) h = let d = length-decimal-le_wide 5 (suc n) (omega arith) h (omega arith) in record { least = omega arith; most = omega arith }

-- three sizes below a thousand
pub sizes_long : (a b c : ℕ) → a < 10 ^ 3 → b < 10 ^ 3 → c < 10 ^ 3 → length (size_list (a ∷ b ∷ c ∷ [])) ≤ 13
sizes_long a b c ha hb hc =
    let ws = decimal b ∷ decimal c ∷ [] in
    omega (arith, length-append (joined 44 (decimal a ∷ ws)) (93 ∷ []), joined_long 44 (decimal a) ws, small_long a ha, small_long b hb, small_long c hc)

-- ---- many words

pub words_between : {A : Type 0} (f : A → List ℕ) (test : A → Bool) (low high : ℕ) → ((x : A) → test x ≡ true → Between low high (length (f x)))
    → (xs : List A) → list_all test xs ≡ true → Between (length xs * (low + 1)) (length xs * (high + 1)) (words_size (map f xs))
words_between f test low high each [] h = record { least = omega arith; most = omega arith }
words_between f test low high each (x ∷ xs) h = grind (arith, nat_tests, words_between f test low high each xs (and_parts (test x) (list_all test xs) h).1)
