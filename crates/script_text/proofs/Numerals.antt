-- Numbers, bits, lists and names that are printed are read as themselves, and what is read of them is within its range.
use Rattle.script_text.proofs.Words.{◌≡◌, ℕ, zero, suc, ◌+◌, ◌-◌, ◌*◌, ◌/◌, ◌%◌, ◌^◌, ◌≤◌, ◌<◌, List, [], ◌∷◌, ◌++◌, map, length, get_or, fold, Bool, true, false, not, nat_lt, nat_le, ◌==◌, ◌&&◌, ◌||◌, Option, Some, None, option_map, option_and_then, ℤ, pos, neg_ℤ, unsigned_abs, refl, ap, length-append, arith, decimal, signed_decimal, list_all, slice_split, All, and_parts, and_from, ne_eqb, eq-eqb, cond-true, cond-false, le-leb, lt-ltb, not-true, decimal_by_steps_wide, length-decimal-le_wide, common_steps, take_at, get_or_at, fold_push, AllPass-from_list_all, slice_split_at, slice_split_none, digit_bounds, no_sum, sixteens-le, sixteens, hex, hex_digit, joined, bracketed, size_list, is_digit, digits_value, natural_of, below, size_of_text, number_of_text, hex_sum, hex_value, bits_of_text, starts_name, in_name, is_name, is_comma, parts, all_some, list_of_text, all_joined, nat_tests}
use native.Mathlib.Nat.{mul-le-mul_right}
use Rattle.script_text.proofs.Lexing.{is_graphic, is_plain, hex_again}
use Rattle.script_spelling.proofs.Steps.{all_more, decided}

-- ---- digits

graphic : (c : ℕ) → 33 ≤ c → c ≤ 126 → is_graphic c ≡ true
graphic c low high = and_from _ _ (le-leb 33 c low) (le-leb c 126 high)

pub record IsNumeral (n : ℕ) (ds : List ℕ) : Type 0 where
  pub some : 0 < length ds
  pub digits : list_all is_digit ds ≡ true
  pub value : digits_value ds ≡ n

one_digit : (n : ℕ) → n < 10 → IsNumeral n ((48 + n) ∷ [])
one_digit n h = grind (arith, nat_tests)

digit_more : (n : ℕ) (ds : List ℕ) → 10 ≤ n → IsNumeral (n / 10) ds → IsNumeral n (ds ++ (48 + n % 10) ∷ [])
digit_more n ds h d = grind (arith, nat_tests, length-append, all_joined, and_from, fold_push)

pub decimal_numeral : (n : ℕ) → n < 10 ^ 64 → IsNumeral n (decimal n)
decimal_numeral n h = decimal_by_steps_wide IsNumeral one_digit digit_more n h

natural_again : (n : ℕ) → n < 10 ^ 20 → natural_of (decimal n) ≡ Some n
natural_again n h =
    let d = decimal_numeral n (omega arith) in
    let short : length (decimal n) ≤ 20 = length-decimal-le_wide 20 n (omega arith) h (omega arith) in
    grind (arith, nat_tests, d.some, d.digits, d.value, short)

digits_plain : (ds : List ℕ) → 0 < length ds → list_all is_digit ds ≡ true → is_plain ds ≡ true
digits_plain ds some h = grind (arith, nat_tests, digit_bounds, and_parts, and_from, not, ne_eqb, all_more, graphic)

pub decimal_plain : (n : ℕ) → n < 10 ^ 64 → is_plain (decimal n) ≡ true
decimal_plain n h = let d = decimal_numeral n h in digits_plain (decimal n) d.some d.digits

-- ---- sizes

pub size_again : (n : ℕ) → n < 2 ^ 63 → size_of_text (decimal n) ≡ Some n
size_again n h = grind (arith, nat_tests, natural_again, below)

pub size_plain : (n : ℕ) → n < 2 ^ 63 → is_plain (decimal n) ≡ true
size_plain n h = decimal_plain n (omega arith)

-- ---- numbers with a sign

unsigned_number : (ds : List ℕ) → 0 < length ds → list_all is_digit ds ≡ true → number_of_text ds ≡ option_map (λ n. pos n) (natural_of ds)
unsigned_number ds some h = grind (arith, nat_tests, digit_bounds, and_parts, cond-false, ne_eqb)

pub number_again : (z : ℤ) → unsigned_abs z < 10 ^ 20 → number_of_text (signed_decimal z) ≡ Some z
number_again z h = grind (arith, nat_tests, decimal_numeral, unsigned_number, decimal, option_map, natural_again, neg_ℤ)

pub number_plain : (z : ℤ) → unsigned_abs z < 10 ^ 20 → is_plain (signed_decimal z) ≡ true
number_plain z h = grind (arith, nat_tests, decimal_numeral, digits_plain, decimal, all_more, digit_bounds, graphic)

-- ---- bits

hex_sum_again : (k n : ℕ) → n < sixteens k → fold hex_sum (Some 0) (hex k n) ≡ Some n
hex_sum_again zero n h = let none : 0 ≡ n = omega arith in ap (λ (x : ℕ). Some x) none
hex_sum_again (suc k) n h = grind (arith, nat_tests, hex_sum_again k (n / 16) (omega arith), option_map, hex_again, fold_push)

pub length-hex : (k n : ℕ) → length (hex k n) ≡ k
length-hex zero n = refl
length-hex (suc k) n = omega (arith, length-append (hex k (n / 16)) (hex_digit (n % 16) ∷ []), length-hex k (n / 16))

pub bits_again : (k n : ℕ) → 0 < k → k ≤ 16 → n < sixteens k → bits_of_text (120 ∷ hex k n) ≡ Some n
bits_again k n some short h = grind (arith, nat_tests, length-hex, nat_lt, nat_le, and_from, lt-ltb, le-leb, cond-true, hex_sum_again)

pub hex_value_bound : (c h : ℕ) → hex_value c ≡ Some h → h < 16
hex_value_bound c h e = grind (arith, nat_tests, nat_le, digit_bounds, common_steps)

hex_sum_bound : (hs : List ℕ) (a n most : ℕ) → fold hex_sum (Some a) hs ≡ Some n → (a + 1) * sixteens (length hs) ≤ most → n < most
hex_sum_bound [] a n most e le = let same : a ≡ n = cc in omega arith
hex_sum_bound (c ∷ hs) a n most e le = by (hex_value c) refl e (λ h. hex_sum_bound hs (16 * a + h) n most)
  where
    by : (o : Option ℕ) → hex_value c ≡ o → fold hex_sum (option_map (λ h. 16 * a + h) o) hs ≡ Some n
        → ((h : ℕ) → fold hex_sum (Some (16 * a + h)) hs ≡ Some n → (16 * a + h + 1) * sixteens (length hs) ≤ most → n < most) → n < most
    by None is k more = let none = no_sum hs in absurd (cc)
    by (Some h) is k more = grind (arith, nat_tests, hex_value_bound, mul-le-mul_right)

pub bits_bound : (w : List ℕ) (n : ℕ) → bits_of_text w ≡ Some n → n < 2 ^ 64
bits_bound [] n h = absurd (cc)
bits_bound (c ∷ hs) n h =
    decided (c == 120 && nat_lt 0 (length hs) && nat_le (length hs) 16) _ _ _ h
    (grind (arith, common_steps, sixteens-le (length hs) (16 - length hs) 16, hex_sum_bound hs 0 n (2 ^ 64)))
    (λ e k. absurd (cc))

pub hex_graphic : (k n : ℕ) → list_all is_graphic (hex k n) ≡ true
hex_graphic zero n = refl
hex_graphic (suc k) n = grind (arith, nat_tests, all_joined, hex_graphic k (n / 16), list_all, common_steps)

-- ---- lists in brackets

-- a byte of a part of a list
abbrev pub is_item_byte : ℕ → Bool
is_item_byte c = is_graphic c && not (is_comma c)

abbrev pub is_item : List ℕ → Bool
is_item [] = false
is_item (c ∷ cs) = list_all is_item_byte (c ∷ cs)

item_bytes : (w : List ℕ) → is_item w ≡ true → list_all is_item_byte w ≡ true
item_bytes w h = grind (arith, nat_tests)

item_graphic : (w : List ℕ) → is_item w ≡ true → list_all is_graphic w ≡ true
item_graphic w h = all_more is_item_byte is_graphic (λ c b. (and_parts _ _ b).0) w (item_bytes w h)

no_comma : (w : List ℕ) → list_all is_item_byte w ≡ true → All (λ c. is_comma c ≡ false) w
no_comma w h k d low = not-true (is_comma (get_or w k d)) (and_parts _ _ (AllPass-from_list_all is_item_byte w h k d low)).1

cut_parts : (w : List ℕ) (ws : List (List ℕ)) → list_all is_item (w ∷ ws) ≡ true → slice_split is_comma (joined 44 (w ∷ ws)) ≡ w ∷ ws
cut_parts w [] h = slice_split_none is_comma w (no_comma w (item_bytes w (and_parts _ _ h).0))
cut_parts w (x ∷ ws) h =
    grind (arith, nat_tests, cut_parts x ws (and_parts (is_item w) (list_all is_item (x ∷ ws)) h).1, and_parts, slice_split_at, no_comma, item_bytes)

some_joined : (w : List ℕ) (ws : List (List ℕ)) → is_item w ≡ true → 0 < length (joined 44 (w ∷ ws))
some_joined w ws h = grind (arith, nat_tests, length-append)

pub parts_again : (ws : List (List ℕ)) → list_all is_item ws ≡ true → parts (joined 44 ws) ≡ ws
parts_again [] h = refl
parts_again (w ∷ ws) h = grind (arith, nat_tests, joined 44 (w ∷ ws), some_joined w ws, cut_parts w ws h)

joined_bytes : (ws : List (List ℕ)) → list_all is_item ws ≡ true → list_all is_graphic (joined 44 ws) ≡ true
joined_bytes (w ∷ x ∷ ws) h =
    grind (arith, nat_tests, joined_bytes (x ∷ ws) (and_parts (is_item w) (list_all is_item (x ∷ ws)) h).1, and_parts, all_joined, item_graphic)
joined_bytes ws h = grind (arith, nat_tests, and_parts, item_graphic)

pub bracketed_plain : (ws : List (List ℕ)) → list_all is_item ws ≡ true → is_plain (bracketed ws) ≡ true
bracketed_plain ws h = all_joined is_graphic (joined 44 ws) (93 ∷ []) (joined_bytes ws h) refl

-- ---- lists of sizes

abbrev pub is_size : ℕ → Bool
is_size n = nat_lt n (2 ^ 63)

digit_item : (d : ℕ) → is_digit d ≡ true → is_item_byte d ≡ true
digit_item d h = grind (arith, nat_tests, digit_bounds d h, graphic)

sizes_items : (ns : List ℕ) → list_all is_size ns ≡ true → list_all is_item (map decimal ns) ≡ true
sizes_items [] h = refl
sizes_items (n ∷ ns) h = grind (arith, nat_tests, sizes_items ns, and_parts, decimal_numeral n, all_more, digit_item, and_from, common_steps)

sizes_again : (ns : List ℕ) → list_all is_size ns ≡ true → all_some (map size_of_text (map decimal ns)) ≡ Some ns
sizes_again [] h = refl
sizes_again (n ∷ ns) h = grind (arith, nat_tests, sizes_again ns, and_parts, size_again n, option_map, common_steps)

pub list_again : (ns : List ℕ) → list_all is_size ns ≡ true → list_of_text (size_list ns) ≡ Some ns
list_again ns h = grind (arith, nat_tests, option_and_then, decimal, parts_again, sizes_items, sizes_again, nat_lt, length-append, eq-eqb, get_or_at, and_from, lt-ltb, cond-true, take_at)

pub list_plain : (ns : List ℕ) → list_all is_size ns ≡ true → is_plain (size_list ns) ≡ true
list_plain ns h = bracketed_plain (map decimal ns) (sizes_items ns h)

-- ---- names

in_name_bounds : (c : ℕ) → in_name c ≡ true → (43 ≤ c) × (c ≤ 122)
in_name_bounds c h = grind (arith, common_steps)

starts_in : (c : ℕ) → starts_name c ≡ true → in_name c ≡ true
starts_in c h = ap (λ (b : Bool). b || c == 46 || c == 45 || c == 43 || c == 64) h

pub name_item : (n : List ℕ) → is_name n ≡ true → is_item n ≡ true
name_item [] h = absurd (cc)
name_item (c ∷ cs) h = grind (arith, nat_tests, and_parts, nat_lt, all_more, in_name_bounds, graphic, not, ne_eqb, and_from, starts_in)

pub name_plain : (n : List ℕ) → is_name n ≡ true → is_plain n ≡ true
name_plain [] h = absurd (cc)
name_plain (c ∷ cs) h = grind (arith, nat_tests, name_item (c ∷ cs) h, item_graphic (c ∷ cs) (name_item (c ∷ cs) h), and_parts, in_name_bounds c, starts_in c, ne_eqb)
