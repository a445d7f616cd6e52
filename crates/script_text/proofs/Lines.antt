-- Lines that are printed are the significant lines of their text, which is ASCII.
use Rattle.script_text.proofs.Words.{◌≡◌, ◌∙◌, ℕ, zero, suc, ◌+◌, ◌/◌, ◌<◌, List, [], ◌∷◌, map, length, take, get_or, Bool, true, false, not, nat_lt, nat_le, ◌==◌, ◌&&◌, refl, ap, ⊎_elim, append_assoc, take_all, arith, IsUtf8, IsAscii, and_parts, and_from, eq-eqb, eqb-true, cases_Bool, cond-false, not-true, common_steps, slice_split_at, length-slice_split, AllPass-from_list_all, IsUtf8-from_ascii, IsUtf8-from_is_utf8, utf8_valid_len-IsUtf8, IsAscii-from_all, All, list_all, enumerate_from, is_utf8, valid_len_up_to, utf8_valid_len, first_line_kept, text_char, joined, line, Word, Line, words, is_comment, is_newline, significant, significant_of, text_lines, all_joined, nat_tests, ltb-true}
use Rattle.std.proofs.Common.{flat_map}
use lib.Utf8.{scalar, scalars, encode, encodes, scalar_cases, next}
use Rattle.script_text.proofs.Lexing.{spelling, is_byte, is_good, byte_bound, tail_of, joined_words, words_again, below_16}
use Rattle.script_spelling.proofs.Steps.{all_more}
use Rattle.list_laws.proofs.Truth.{either}

-- ---- bytes that are printed

abbrev pub is_printable : ℕ → Bool
is_printable c = nat_le 32 c && nat_le c 126

printed_text : (text : List ℕ) → list_all is_byte text ≡ true → list_all is_printable (flat_map text_char text) ≡ true
printed_text [] h = refl
printed_text (c ∷ text) h = grind (arith, nat_tests, flat_map, and_parts, all_joined, below_16, nat_le, and_from, cases_Bool, eqb-true, cond-false, byte_bound c, printed_text text)

printed_word : (w : Word) → is_good w ≡ true → list_all is_printable (spelling w) ≡ true
printed_word w h = grind (arith, nat_tests, all_more, and_parts, all_joined, flat_map, printed_text)

printed_tail : (ws : List Word) → list_all is_good ws ≡ true → list_all is_printable (tail_of ws) ≡ true
printed_tail [] h = refl
printed_tail (w ∷ ws) h = grind (arith, nat_tests, and_parts, all_joined is_printable (spelling w) (tail_of ws), printed_word w, printed_tail ws)

-- ---- lines

-- the words of a line, which is significant and cut into them again
abbrev pub is_line : List Word → Bool
is_line [] = false
is_line (w ∷ ws) = not (is_comment w) && list_all is_good (w ∷ ws)

abbrev pub body : List Word → List ℕ
body ws = joined 32 (map spelling ws)

abbrev pub spelled : List Word → List ℕ
spelled ws = line (map spelling ws)

no_newline : (cs : List ℕ) → list_all is_printable cs ≡ true → All (λ c. is_newline c ≡ false) cs
no_newline cs h k d low = grind (arith, nat_tests, common_steps)

pub lines_again : (wss : List (List Word)) → list_all is_line wss ≡ true → text_lines (flat_map spelled wss) ≡ map body wss
lines_again [] h = refl
lines_again (ws ∷ wss) h = grind (arith, nat_tests, no_newline, first_line_kept, append_assoc, slice_split_at, length-slice_split, flat_map, lines_again wss, flat_map, spelled, body, joined_words, all_joined, printed_word, printed_tail, and_parts)

-- ---- the significant lines

-- the lines of these words, from this number on
abbrev pub numbered : ℕ → List (List Word) → List Line
numbered n [] = []
numbered n ([] ∷ wss) = numbered (n + 1) wss
numbered n ((w ∷ ws) ∷ wss) = record { number = n; first = w; rest = ws } ∷ numbered (n + 1) wss

significant_again : (n : ℕ) (wss : List (List Word)) → list_all is_line wss ≡ true → significant_of (enumerate_from n (map body wss)) ≡ numbered n wss
significant_again n [] h = refl
significant_again n ([] ∷ wss) h = absurd (cc)
significant_again n ((w ∷ ws) ∷ wss) h =
    grind (arith, nat_tests, significant_again (n + 1) wss (and_parts (is_line (w ∷ ws)) (list_all is_line wss) h).1, and_parts, words_again, cond-false, not-true)

pub significant_lines : (wss : List (List Word)) → list_all is_line wss ≡ true → significant (flat_map spelled wss) ≡ numbered 1 wss
significant_lines wss h = ap (λ (ls : List (List ℕ)). significant_of (enumerate_from 1 ls)) (lines_again wss h) ∙ significant_again 1 wss h

-- ---- UTF-8

abbrev is_ascii : ℕ → Bool
is_ascii c = nat_lt c 128

printable_ascii : (c : ℕ) → is_printable c ≡ true → is_ascii c ≡ true
printable_ascii c h = grind (arith, nat_tests, common_steps)

ascii_lines : (wss : List (List Word)) → list_all is_line wss ≡ true → list_all is_ascii (flat_map spelled wss) ≡ true
ascii_lines [] h = refl
ascii_lines (ws ∷ wss) h =
    grind (arith, nat_tests, flat_map, and_parts, all_joined, all_more is_printable is_ascii printable_ascii (body ws), ascii_lines wss, joined_words, printed_word, printed_tail)

pub valid_lines : (wss : List (List Word)) → list_all is_line wss ≡ true → (utf8_valid_len (flat_map spelled wss) == length (flat_map spelled wss)) ≡ true
valid_lines wss h =
    let text = flat_map spelled wss in
    let all : IsAscii text = IsAscii-from_all text (λ k d low. ltb-true (get_or text k d) 128 (AllPass-from_list_all is_ascii text (ascii_lines wss h) k d low)) in
    eq-eqb _ _ (utf8_valid_len-IsUtf8 text (IsUtf8-from_ascii text all))

-- ---- a text that is UTF-8 has bytes

longest_front : (bs : List ℕ) (m : ℕ) → IsUtf8 (take (valid_len_up_to bs m) bs)
longest_front bs zero = ([], (refl, refl))
longest_front bs (suc m) = either (λ n. IsUtf8 (take n bs)) (is_utf8 (take (suc m) bs)) (suc m) (valid_len_up_to bs m) (λ yes. IsUtf8-from_is_utf8 _ yes) (λ no. longest_front bs m)

whole_front : (bs : List ℕ) → (utf8_valid_len bs == length bs) ≡ true → IsUtf8 bs
unfolding utf8_valid_len
whole_front bs h = grind (arith, nat_tests, take_all (length bs) bs (omega arith), longest_front bs (length bs), eqb-true)

next_byte : (c : ℕ) → is_byte (next c) ≡ true
next_byte c = grind (arith, nat_tests)

two : (a b : ℕ) → a < 256 → list_all is_byte (a ∷ next b ∷ []) ≡ true
two a b h = grind (arith, nat_tests, is_byte, next_byte, list_all)

last_byte : (c : ℕ) → scalar c ≡ true → 240 + c / 262144 < 256
last_byte c h = ⊎_elim (λ a. omega arith) (λ a. let high = a.1 in omega arith) (scalar_cases c h)

encode_bytes : (c : ℕ) → scalar c ≡ true → list_all is_byte (encode c) ≡ true
unfolding encode
encode_bytes c h = grind (arith, nat_tests, is_byte, either, nat_lt, ltb-true, and_from, two, last_byte)

encodes_bytes : (cs : List ℕ) → scalars cs ≡ true → list_all is_byte (encodes cs) ≡ true
encodes_bytes [] h = refl
encodes_bytes (c ∷ cs) h = grind (arith, nat_tests, and_parts, all_joined is_byte (encode c) (encodes cs), encode_bytes c, encodes_bytes cs)

pub valid_bytes : (bs : List ℕ) → (utf8_valid_len bs == length bs) ≡ true → list_all is_byte bs ≡ true
valid_bytes bs h = grind (arith, nat_tests, whole_front, is_byte, encodes_bytes)
