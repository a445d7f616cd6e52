-- Hexadecimal digits, two at a time.
use Rattle.printed_text.proofs.Cited.{◌≡◌, ℕ, zero, suc, ◌+◌, ◌-◌, ◌*◌, ◌/◌, ◌%◌, ◌<◌, ◌≤◌, Bool, true, ◌&&◌, T, eqb, eqb→eq, eq-zero-or-pos, and_l, and_r, List, [], ◌∷◌, ◌++◌, length, take, drop, set, get_or, refl, inl, inr, arith, append_assoc, drop-set, take-set-le, take-set_at, take-append_seam, length-append, length-set, length-take-le, hex, hex_digit, PAIRS}
use Rattle.printed_text.proofs.WordLaws.{hex_last}

-- ---- the table

-- the test of the first n bytes, which computes
abbrev are_pairs : ℕ → Bool
are_pairs zero = true
are_pairs (suc b) = (eqb (get_or PAIRS (b * 2) 0) (hex_digit (b / 16)) && eqb (get_or PAIRS (b * 2 + 1) 0) (hex_digit (b % 16))) && are_pairs b

below : (n b : ℕ) → T (are_pairs n) → b < n → (get_or PAIRS (b * 2) 0 ≡ hex_digit (b / 16)) × (get_or PAIRS (b * 2 + 1) 0 ≡ hex_digit (b % 16))
below zero b t h = absurd (omega arith)
below (suc n) b t h =
    elim (eq-zero-or-pos (n - b)) [
      | inl z ↦ let e : b ≡ n = omega arith in let a = and_l _ (are_pairs n) t in rw e (eqb→eq _ _ (and_l _ _ a), eqb→eq _ _ (and_r _ _ a))
      | inr g ↦ below n b (and_r _ (are_pairs n) t) (omega arith)
    ]

-- the table has the two digits of each byte
pub PAIRS_at : (b : ℕ) → b < 256 → (get_or PAIRS (b * 2) 0 ≡ hex_digit (b / 16)) × (get_or PAIRS (b * 2 + 1) 0 ≡ hex_digit (b % 16))
PAIRS_at b h = below 256 b tt h

-- ---- the digits of a number

hex_two : (n x : ℕ) → 2 ≤ n → hex n x ≡ hex (n - 2) (x / 256) ++ hex_digit (x % 256 / 16) ∷ hex_digit (x % 256 % 16) ∷ []
hex_two n x some =
    let one : n - 1 - 1 ≡ n - 2 = omega arith in
    let left : x / 16 / 16 ≡ x / 256 = omega arith in
    let high : x / 16 % 16 ≡ x % 256 / 16 = omega arith in
    let low : x % 256 % 16 ≡ x % 16 = omega arith in
    rw (hex_last n x (omega arith), hex_last (n - 1) (x / 16) (omega arith), append_assoc, one, left, high, low)

length_hex : (n x : ℕ) → length (hex n x) ≡ n
length_hex zero x = refl
length_hex (suc n) x = simp (length-append, length_hex n (x / 16)) (omega arith)

-- a pair goes before what is written
pub pair_next : (start left x : ℕ) (text next : List ℕ) → 0 < left → start + 2 * left ≤ length text
    → next ≡ set (set text (start + 2 * (left - 1) + 1) (hex_digit (x % 256 % 16))) (start + 2 * (left - 1)) (hex_digit (x % 256 / 16))
    → take start text ++ hex (2 * left) x ++ drop (start + 2 * left) text ≡ take start next ++ hex (2 * (left - 1)) (x / 256) ++ drop (start + 2 * (left - 1)) next
pair_next start left x text next some within written =
    let at : ℕ = start + 2 * (left - 1) in
    let high : ℕ = hex_digit (x % 256 / 16) in
    let low : ℕ = hex_digit (x % 256 % 16) in
    let half : List ℕ = set text (at + 1) low in
    let last : List ℕ = drop (start + 2 * left) text in
    let front : List ℕ = hex (2 * (left - 1)) (x / 256) in
    let long : at + 1 < length text = omega arith in
    let short : at < length half = omega (arith, length-set text (at + 1) low) in
    let here : at + 1 + 1 ≡ start + 2 * left = omega arith in
    let before : take start next ≡ take start text = rw (written, take-set-le start half at high (omega arith), take-set-le start text (at + 1) low (omega arith)) in
    let after : drop at next ≡ high ∷ low ∷ last = rw (written, drop-set half at high short, drop-set text (at + 1) low long, here) in
    let fewer : 2 * left - 2 ≡ 2 * (left - 1) = omega arith in
    let digits : hex (2 * left) x ≡ front ++ high ∷ low ∷ [] = rw (hex_two (2 * left) x (omega arith), fewer) in
    simp (digits, before, after, append_assoc)

-- ---- what is written into a text

-- the digits and what stands before them
pub digits_there : (start n x end : ℕ) (old next rest : List ℕ) → start ≤ length old → end ≡ start + n
    → next ≡ take start old ++ hex n x ++ rest → take end next ≡ take start old ++ hex n x
digits_there start n x end old next rest within here written =
    let front : List ℕ = take start old ++ hex n x in
    let long : end ≡ length front = omega (arith, length-append (take start old) (hex n x), length-take-le start old within, length_hex n x, here) in
    rw (written, long) (take-append_seam front rest)

-- an odd number of them, of which the last one is written first
pub odd_there : (start n m x end d : ℕ) (old next : List ℕ) → start + m < length old → end ≡ start + n → n ≡ m + 1 → d ≡ hex_digit (x % 16)
    → next ≡ take start (set old (start + m) d) ++ hex m (x / 16) ++ drop (start + m) (set old (start + m) d) → take end next ≡ take start old ++ hex n x
odd_there start n m x end d old next within here one digit written =
    let last : List ℕ = drop (start + m + 1) old in
    let front : take start (set old (start + m) d) ≡ take start old = take-set-le start old (start + m) d (omega arith) in
    let back : drop (start + m) (set old (start + m) d) ≡ d ∷ last = drop-set old (start + m) d within in
    let fewer : n - 1 ≡ m = omega arith in
    let all : hex n x ≡ hex m (x / 16) ++ d ∷ [] = rw (hex_last n x (omega arith), fewer, digit) in
    let whole : next ≡ take start old ++ hex n x ++ last = simp (written, front, back, all, append_assoc) in
    digits_there start n x end old next last (omega arith) here whole

-- a blank and an x before them
pub pattern_there : (at : ℕ) (old text digits : List ℕ) → at + 1 < length old
    → text ≡ take (at + 2) (set (set old at 32) (at + 1) 120) ++ digits → text ≡ take at old ++ 32 ∷ 120 ∷ digits
pattern_there at old text digits within written =
    let one : at + 1 < length (set old at 32) = omega (arith, length-set old at 32) in
    let second : take (at + 2) (set (set old at 32) (at + 1) 120) ≡ take (at + 1) (set old at 32) ++ 120 ∷ [] = take-set_at (set old at 32) (at + 1) (at + 2) 120 (omega arith) one in
    let first : take (at + 1) (set old at 32) ≡ take at old ++ 32 ∷ [] = take-set_at old at (at + 1) 32 (omega arith) (omega arith) in
    simp (written, second, first, append_assoc)
