-- The first line of a text.
use Rattle.script_words.proofs.Cited.{◌≡◌, ◌≢◌, ℕ, suc, ◌+◌, ◌<◌, ◌≤◌, List, [], ◌∷◌, length, take, drop, Bool, not, Option, Some, None, refl, ap, ◌∙◌, arith, position, cond, get_or, slice_split_first, length-slice_split, prefix_len-le-length, count_by-le-length, position_or_len_is, false_from_ne_true, IsFirstByte, is_byte, position_or_len, slice_split, onto_first, before_first, after_first, length-enumerate_from, first_line_kept, text_lines, is_newline, without_empty_end, is_comma, nat_tests}

-- what `position` found
pub found_at : {X : Type 0} (p : X → Bool) (xs : List X) (n : ℕ) → position p xs ≡ Some n → (position_or_len p xs ≡ n) × (n < length xs)
found_at p xs n h = grind (arith, prefix_len-le-length (λ x. not (p x)) xs)

-- what a search for newlines finds
pub first_newline : (text : List ℕ) (r : Option ℕ) → IsFirstByte (is_byte 10) text r → r ≡ position is_newline text
first_newline text None h =
    let none : position_or_len is_newline text ≡ length text = position_or_len_is is_newline text (length text) 0 (omega arith) (λ k lt. false_from_ne_true (is_newline (get_or text k 0)) (h k (omega arith) lt)) (λ lt. absurd (omega arith)) in
    grind (arith, none)
first_newline text (Some k) h =
    let first = h.0 in
    let here : position_or_len is_newline text ≡ k = position_or_len_is is_newline text k 0 (omega arith) (λ j lt. false_from_ne_true (is_newline (get_or text j 0)) (first.before j (omega arith) lt)) (λ lt. h.1) in
    grind (arith, here, first.high)

pub lines_cut : (text : List ℕ) (n : ℕ) → position is_newline text ≡ Some n → text_lines text ≡ take n text ∷ text_lines (drop (n + 1) text)
lines_cut text n h =
    let at = found_at is_newline text n h in
    let parts : slice_split is_newline text ≡ before_first is_newline text ∷ slice_split is_newline (after_first is_newline text) =
    slice_split_first is_newline text 0 (omega arith) in
    let more : 0 < length (slice_split is_newline (after_first is_newline text)) = omega (arith, length-slice_split is_newline (after_first is_newline text)) in
    grind (arith, nat_tests, first_line_kept, at.0, take, drop)

longer_part : {X : Type 0} (x : X) (xs : List X) (n : ℕ) (parts : List (List X)) (b : Bool) → cond (not b) (1 + n) 0 ≡ suc (length xs) → (n ≡ length xs → parts ≡ xs ∷ [])
    → cond b ([] ∷ parts) (onto_first x parts) ≡ (x ∷ xs) ∷ []
longer_part x xs n parts b e rest = grind (arith, nat_tests)

-- where nothing passes, the list is the one part
whole_part : {X : Type 0} (p : X → Bool) (xs : List X) → position_or_len p xs ≡ length xs → slice_split p xs ≡ xs ∷ []
whole_part p [] h = refl
whole_part p (x ∷ xs) h = longer_part x xs (position_or_len p xs) (slice_split p xs) (p x) h (whole_part p xs)

pub not_found : {X : Type 0} (p : X → Bool) (xs : List X) → position p xs ≡ None → position_or_len p xs ≡ length xs
not_found p xs h = grind (arith, prefix_len-le-length (λ x. not (p x)) xs)

alone : (text : List ℕ) → text ≢ [] → without_empty_end (text ∷ []) ≡ text ∷ []
alone text some = grind (arith, nat_tests)

pub lines_last : (text : List ℕ) → position is_newline text ≡ None → text ≢ [] → text_lines text ≡ text ∷ []
lines_last text h some = ap without_empty_end (whole_part is_newline text (not_found is_newline text h)) ∙ alone text some

-- ---- the same of the parts of a list

pub parts_cut : (text : List ℕ) (n : ℕ) → position is_comma text ≡ Some n → slice_split is_comma text ≡ take n text ∷ slice_split is_comma (drop (n + 1) text)
parts_cut text n h =
    let at = found_at is_comma text n h in
    let cut : slice_split is_comma text ≡ before_first is_comma text ∷ slice_split is_comma (after_first is_comma text) = slice_split_first is_comma text 0 (omega arith) in
    cut ∙ ap (λ (k : ℕ). take k text ∷ slice_split is_comma (drop (k + 1) text)) at.0

pub parts_last : (text : List ℕ) → position is_comma text ≡ None → slice_split is_comma text ≡ text ∷ []
parts_last text h = whole_part is_comma text (not_found is_comma text h)

-- ---- how many lines a text has

fewer : (parts : List (List ℕ)) → length (without_empty_end parts) ≤ length parts
fewer [] = omega arith
fewer ([] ∷ []) = omega arith
fewer ((c ∷ cs) ∷ []) = omega arith
fewer (x ∷ y ∷ more) = omega (arith, fewer (y ∷ more))

pub few_lines : (text : List ℕ) → length (text_lines text) ≤ length text + 1
few_lines text = omega (arith, fewer (slice_split is_newline text), length-slice_split is_newline text, count_by-le-length is_newline text)

-- what the count of lines goes by
pub ruleset numbered = (few_lines, length-enumerate_from)
