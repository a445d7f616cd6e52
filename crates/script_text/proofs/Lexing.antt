-- Words that are printed are cut again from their line.
use Rattle.script_text.proofs.Words.{◌≡◌, ◌∙◌, ℕ, zero, suc, ◌+◌, ◌%◌, ◌≤◌, ◌<◌, List, [], ◌∷◌, ◌++◌, map, length, drop, Bool, true, false, not, cond, nat_lt, nat_le, ◌==◌, ◌&&◌, Some, refl, sym, ap, append-nil, arith, and_parts, or_from, ne_eqb, eqb-true, cases_Bool, cond-true, cond-false, not-true, common_steps, take_at, drop_at, position_or_len, list_all, text_char, quoted, hex_digit, joined, Word, Plain, Quoted, Broken, is_blank, begins_blank, after_blanks, first_word, quoted_word, text_from, Between, words, words_within, hex_value, nat_tests}
use Rattle.std.proofs.Common.{flat_map}

-- ---- words as they are printed

abbrev pub spelling : Word → List ℕ
spelling (Plain w) = w
spelling (Quoted text) = quoted text
spelling Broken = []

-- it can be seen, so it is no blank
abbrev pub is_graphic : ℕ → Bool
is_graphic c = nat_le 33 c && nat_le c 126

abbrev pub is_plain : List ℕ → Bool
is_plain [] = false
is_plain (c ∷ cs) = not (c == 34) && list_all is_graphic (c ∷ cs)

abbrev pub is_byte : ℕ → Bool
is_byte c = nat_lt c 256

-- the word is cut again where its spelling is printed
abbrev pub is_good : Word → Bool
is_good (Plain w) = is_plain w
is_good (Quoted text) = list_all is_byte text
is_good Broken = false

not_blank : (c : ℕ) → 33 ≤ c → is_blank c ≡ false
not_blank c h = or_from _ _ (or_from _ _ (ne_eqb c 32 (omega arith)) (ne_eqb c 9 (omega arith))) (ne_eqb c 13 (omega arith))

-- ---- a text, character by character

pub hex_again : (d : ℕ) → d < 16 → hex_value (hex_digit d) ≡ Some d
hex_again d h = grind (arith, nat_tests)

abbrev IsAgain : List ℕ → List ℕ → List ℕ → ℕ → Type 0
IsAgain rest text tail c = text_from Between (text_char c ++ rest) ≡ Some (c ∷ text, tail)

pub below_16 : (c : ℕ) → c % 16 < 16
below_16 c = omega arith

char_again : (rest text tail : List ℕ) → text_from Between rest ≡ Some (text, tail) → (c : ℕ) → c < 256 → IsAgain rest text tail c
char_again rest text tail h c small =
    grind (arith, nat_tests, below_16, cases_Bool (nat_le 32 c && nat_le c 126), cases_Bool (c == 9), cases_Bool (c == 10), cases_Bool (c == 92), cases_Bool (c == 34), eqb-true, cond-false, nat_le)

pub byte_bound : (c : ℕ) → is_byte c ≡ true → c < 256
byte_bound c h = grind (arith, common_steps)

text_again : (text tail : List ℕ) → list_all is_byte text ≡ true → text_from Between ((flat_map text_char text ++ 34 ∷ []) ++ tail) ≡ Some (text, tail)
text_again [] tail h = refl
text_again (c ∷ text) tail h =
    grind (arith, nat_tests, flat_map, char_again, text_again text tail (and_parts (is_byte c) (list_all is_byte text) h).1, byte_bound, flat_map)

-- ---- a word, with what follows it on its line

pub record IsCut (w : Word) : Type 0 where
  pub head : ℕ
  pub behind : List ℕ
  pub spelled : spelling w ≡ head ∷ behind
  pub seen : is_blank head ≡ false
  pub cut : (tail : List ℕ) → begins_blank tail ≡ true → first_word head (behind ++ tail) ≡ (w, tail)

up_to_blank : (cs tail : List ℕ) → list_all is_graphic cs ≡ true → begins_blank tail ≡ true → position_or_len is_blank (cs ++ tail) ≡ length cs
up_to_blank [] tail h blank = grind (arith, nat_tests)
up_to_blank (c ∷ cs) tail h blank =
    grind (arith, nat_tests, not_blank, up_to_blank cs tail (and_parts (is_graphic c) (list_all is_graphic cs) h).1 blank, common_steps)

pub cut : (w : Word) → is_good w ≡ true → IsCut w
cut (Plain []) h = absurd (cc)
cut (Plain (c ∷ cs)) h = grind (arith, nat_tests, and_parts, not_blank, up_to_blank, drop_at, take_at, not-true, common_steps)
cut (Quoted text) h =
    record { head = 34; behind = flat_map text_char text ++ 34 ∷ []; spelled = refl; seen = refl; cut = λ tail blank. ap quoted_word (text_again text tail h) ∙ cond-true _ _ _ blank }
cut Broken h = absurd (cc)

-- ---- the words of a line

-- what follows a word
abbrev pub tail_of : List Word → List ℕ
tail_of [] = []
tail_of (w ∷ ws) = 32 ∷ (spelling w ++ tail_of ws)

pub joined_words : (w : Word) (ws : List Word) → joined 32 (map spelling (w ∷ ws)) ≡ spelling w ++ tail_of ws
joined_words w [] = sym (append-nil (spelling w))
joined_words w (x ∷ ws) = ap (λ (rest : List ℕ). spelling w ++ 32 ∷ rest) (joined_words x ws)

tail_blank : (ws : List Word) → begins_blank (tail_of ws) ≡ true
tail_blank [] = refl
tail_blank (w ∷ ws) = refl

skip_none : (c : ℕ) (cs : List ℕ) → is_blank c ≡ false → after_blanks (c ∷ cs) ≡ c ∷ cs
skip_none c cs e = ap (λ (b : Bool). drop (cond (not (not b)) (1 + position_or_len (λ x. not (is_blank x)) cs) 0) (c ∷ cs)) e

skip_one : (c : ℕ) (cs : List ℕ) → is_blank c ≡ false → after_blanks (32 ∷ c ∷ cs) ≡ c ∷ cs
skip_one c cs e = ap (λ (b : Bool). drop (1 + cond (not (not b)) (1 + position_or_len (λ x. not (is_blank x)) cs) 0) (32 ∷ c ∷ cs)) e

words_tail : (ws : List Word) (n : ℕ) → list_all is_good ws ≡ true → length (tail_of ws) ≤ n → words_within n (tail_of ws) ≡ ws
words_tail [] zero h fits = refl
words_tail [] (suc n) h fits = refl
words_tail (w ∷ ws) zero h fits = absurd (omega arith)
words_tail (w ∷ ws) (suc n) h fits =
    let both = and_parts _ _ h in
    grind (arith, common_steps, cut w both.0, skip_one (cut w both.0).head ((cut w both.0).behind ++ tail_of ws) (cut w both.0).seen, tail_blank ws, words_tail ws n both.1)

pub words_again : (w : Word) (ws : List Word) → list_all is_good (w ∷ ws) ≡ true → words (joined 32 (map spelling (w ∷ ws))) ≡ w ∷ ws
words_again w ws h =
    let both = and_parts _ _ h in
    grind (arith, common_steps, cut w both.0, joined_words w ws, skip_none (cut w both.0).head ((cut w both.0).behind ++ tail_of ws) (cut w both.0).seen, tail_blank ws, words_tail ws (length ((cut w both.0).behind ++ tail_of ws)) both.1)
