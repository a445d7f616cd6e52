-- The texts on the lines of bytes have bytes.
use Rattle.script_text.proofs.Words.{◌≡◌, ℕ, zero, suc, ◌+◌, ◌<◌, List, [], ◌∷◌, drop, Bool, true, not, Option, Some, None, option_map, refl, arith, list_all, slice_split, enumerate_from, position_or_len, and_parts, and_from, Word, is_blank, is_newline, first_word, text_from, TextState, Between, AfterBackslash, FirstHex, SecondHex, words_within, hex_value, without_empty_end, text_lines, significant, significant_of, all_joined, nat_tests, lt-ltb, common_steps}
use Rattle.script_text.proofs.Lexing.{is_byte}
use Rattle.script_text.proofs.Numerals.{hex_value_bound}
use Rattle.script_text.proofs.PrintedValues.{is_read}
use Rattle.script_text.proofs.CallLines.{are_read}
use Rattle.script_spelling.proofs.Steps.{maybe}

abbrev are_bytes : List ℕ → Bool
are_bytes cs = list_all is_byte cs

-- ---- a text

abbrev BytesOf : Option (List ℕ × List ℕ) → Type 0
BytesOf None = Unit {0}
BytesOf (Some t) = (are_bytes t.0 ≡ true) × (are_bytes t.1 ≡ true)

abbrev StateOk : TextState → Type 0
StateOk Between = Unit {0}
StateOk AfterBackslash = Unit {0}
StateOk FirstHex = Unit {0}
StateOk (SecondHex g) = g < 16

text_bytes : (state : TextState) (cs : List ℕ) → StateOk state → are_bytes cs ≡ true → BytesOf (text_from state cs)
text_bytes state [] ok h = tt
text_bytes Between (c ∷ cs) ok h =
    grind (arith, nat_tests, text_bytes AfterBackslash cs tt (and_parts (is_byte c) (are_bytes cs) h).1, text_bytes Between cs tt (and_parts (is_byte c) (are_bytes cs) h).1, and_parts, is_byte, option_map)
text_bytes AfterBackslash (c ∷ cs) ok h =
    let both = and_parts (is_byte c) (are_bytes cs) h in
    grind (arith, nat_tests, text_bytes Between cs tt both.1, text_bytes FirstHex cs tt both.1, maybe, is_byte, both.0)
text_bytes FirstHex (c ∷ cs) ok h = maybe BytesOf (hex_value c) None _ tt (λ g e. text_bytes (SecondHex g) cs (hex_value_bound c g e) (and_parts (is_byte c) (are_bytes cs) h).1)
text_bytes (SecondHex g) (c ∷ cs) ok h =
    grind (arith, nat_tests, text_bytes Between cs tt (and_parts (is_byte c) (are_bytes cs) h).1, and_parts, is_byte, option_map, hex_value_bound, lt-ltb)

-- ---- a word

abbrev WordOk : Word × List ℕ → Type 0
WordOk w = (is_read w.0 ≡ true) × (are_bytes w.1 ≡ true)

all_dropped : (n : ℕ) (cs : List ℕ) → are_bytes cs ≡ true → are_bytes (drop n cs) ≡ true
all_dropped (suc n) (c ∷ cs) h = all_dropped n cs (and_parts (is_byte c) (are_bytes cs) h).1
all_dropped n cs h = grind (arith, nat_tests)

first_ok : (c : ℕ) (cs : List ℕ) → are_bytes cs ≡ true → WordOk (first_word c cs)
first_ok c cs h = grind (arith, nat_tests, text_bytes, all_dropped)

words_read : (n : ℕ) (line : List ℕ) → are_bytes line ≡ true → list_all is_read (words_within n line) ≡ true
words_read zero line h = refl
words_read (suc n) line h = grind (arith, common_steps, all_dropped (position_or_len (λ c. not (is_blank c)) line) line h, words_read n, first_ok, is_byte)

-- ---- lines

abbrev are_texts : List (List ℕ) → Bool
are_texts lines = list_all are_bytes lines

split_bytes : (p : ℕ → Bool) (text : List ℕ) → are_bytes text ≡ true → are_texts (slice_split p text) ≡ true
split_bytes p [] h = refl
split_bytes p (x ∷ text) h = grind (arith, nat_tests, split_bytes p text (and_parts (is_byte x) (are_bytes text) h).1, and_parts, is_byte, and_from)

kept_bytes : (lines : List (List ℕ)) → are_texts lines ≡ true → are_texts (without_empty_end lines) ≡ true
kept_bytes [] h = refl
kept_bytes ([] ∷ []) h = refl
kept_bytes ((c ∷ cs) ∷ []) h = h
kept_bytes (x ∷ y ∷ more) h = grind (arith, nat_tests, kept_bytes (y ∷ more) (and_parts (are_bytes x) (are_texts (y ∷ more)) h).1, and_parts, and_from)

lines_read : (n : ℕ) (lines : List (List ℕ)) → are_texts lines ≡ true → are_read (significant_of (enumerate_from n lines)) ≡ true
lines_read n [] h = refl
lines_read n (line ∷ lines) h =
    grind (arith, nat_tests, lines_read (n + 1) lines (and_parts (are_bytes line) (are_texts lines) h).1, and_parts, all_joined, and_from, words_read)

pub significant_read : (text : List ℕ) → list_all is_byte text ≡ true → are_read (significant text) ≡ true
significant_read text h = lines_read 1 (text_lines text) (kept_bytes (slice_split is_newline text) (split_bytes is_newline text h))
