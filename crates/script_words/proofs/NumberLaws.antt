-- The value of digits, from left to right.
use Rattle.script_words.proofs.Cited.{◌≡◌, ℕ, zero, suc, ◌+◌, ◌-◌, ◌*◌, ◌^◌, ◌≤◌, ◌<◌, List, [], ◌∷◌, length, take, get_or, true, fold, Option, Some, None, option_map, drop, drop-cons, add-one, refl, ap, ◌∙◌, arith, fold_push, take_more, list_all, and_parts, digit_bounds, sixteens-le, no_sum, sixteens, is_digit, digits_value, hex_sum, hex_value}

pub digit_at : (ds : List ℕ) (i d : ℕ) → list_all is_digit ds ≡ true → i < length ds → (48 ≤ get_or ds i d) × (get_or ds i d ≤ 57)
digit_at [] i d all h = absurd (omega arith)
digit_at (x ∷ ds) zero d all h = digit_bounds x (and_parts (is_digit x) (list_all is_digit ds) all).0
digit_at (x ∷ ds) (suc i) d all h = digit_at ds i d (and_parts (is_digit x) (list_all is_digit ds) all).1 (omega arith)

pub value_more : (ds : List ℕ) (i d : ℕ) → i < length ds → digits_value (take (i + 1) ds) ≡ 10 * digits_value (take i ds) + (get_or ds i d - 48)
value_more ds i d h = ap digits_value (take_more ds i d h) ∙ fold_push (λ n x. 10 * n + (x - 48)) 0 (take i ds) (get_or ds i d)

-- ---- hexadecimal digits

sixteens-fits : (i : ℕ) → i ≤ 16 → sixteens i ≤ 2 ^ 64
sixteens-fits i h = sixteens-le i (16 - i) 16 (omega arith)

hex_more : (hs : List ℕ) (i d n : ℕ) → i < length hs → fold hex_sum (Some n) (drop i hs) ≡ fold hex_sum (hex_sum (Some n) (get_or hs i d)) (drop (i + 1) hs)
hex_more hs i d n h = rw (add-one, drop-cons hs i d) refl

pub sixteens-more : (i : ℕ) → i < 16 → 16 * sixteens i ≤ 2 ^ 64
sixteens-more i h = sixteens-fits (suc i) (omega arith)

pub bad_digit : (hs : List ℕ) (i n : ℕ) → i < length hs → hex_value (get_or hs i 0) ≡ None → fold hex_sum (Some n) (drop i hs) ≡ None
bad_digit hs i n h bad = hex_more hs i 0 n h ∙ (ap (λ (o : Option ℕ). fold hex_sum (option_map (λ d. 16 * n + d) o) (drop (i + 1) hs)) bad ∙ no_sum (drop (i + 1) hs))
