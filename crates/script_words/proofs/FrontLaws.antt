-- A number at the front of a line.
use Rattle.script_words.proofs.Cited.{◌≡◌, ℕ, zero, suc, ◌+◌, ◌-◌, ◌≤◌, ◌<◌, ◌==◌, List, [], ◌∷◌, length, take, drop, Bool, true, false, Some, None, ℤ, refl, sym, ap, ◌∙◌, arith, ◌^◌, pos, neg_ℤ, position_or_len, list_all, nat_tests, and_first, and_second, take_all, common_steps, digit_bounds, tens, is_blank, is_digit, begins_blank, digits_value, natural_of, number_of_text, words, after_blanks, first_for}
use Rattle.script_words.proofs.WordLaws.{takes_plain}

-- digits behind which a blank stands, or nothing, are the first word
pub digits_end : (line : List ℕ) (n : ℕ) → n ≤ length line → list_all is_digit (take n line) ≡ true → begins_blank (drop n line) ≡ true → position_or_len is_blank line ≡ n
digits_end [] zero le all blank = refl
digits_end (c ∷ cs) zero le all blank = rw blank refl
digits_end [] (suc n) le all blank = absurd (omega arith)
digits_end (c ∷ cs) (suc n) le all blank = grind (arith, nat_tests, digits_end cs n, digit_bounds, common_steps)

pub digits_say : (line : List ℕ) (n : ℕ) → n ≤ length line → 0 < n → n ≤ 18 → list_all is_digit (take n line) ≡ true → natural_of (take n line) ≡ Some (digits_value (take n line))
digits_say line n within some few all = grind (arith, common_steps)

tens-le : (k n : ℕ) → n + k ≡ 18 → tens n ≤ 10 ^ 18
tens-le zero n e = let most : n ≡ 18 = omega arith in rw most (omega arith)
tens-le (suc k) n e = omega (arith, tens-le k (suc n) (omega arith))

pub tens-few : (n : ℕ) → n ≤ 18 → tens n ≤ 10 ^ 18
tens-few n h = tens-le (18 - n) n (omega arith)

-- a word of few digits alone
pub all_digits_say : (word : List ℕ) (n : ℕ) → n ≡ length word → 0 < n → n ≤ 18 → list_all is_digit (take n word) ≡ true → natural_of word ≡ Some (digits_value (take n word))
all_digits_say word n whole some few all =
    ap natural_of (sym (take_all n word (omega arith))) ∙ digits_say word n (omega arith) some few all

-- a minus sign, and digits behind it
pub signed_says : (line cs : List ℕ) (c n : ℕ) → line ≡ c ∷ cs → c ≡ 45 → natural_of (take (position_or_len is_blank cs) cs) ≡ Some n
    → number_of_text (take (position_or_len is_blank line) line) ≡ Some (neg_ℤ (pos n))
signed_says line cs c n e minus h =
    let here : position_or_len is_blank (45 ∷ cs) ≡ suc (position_or_len is_blank cs) = omega arith in
    rw (e, minus, here, h) refl

-- what says a number has no quote in front
no_quote : (c : ℕ) (cs : List ℕ) (z : ℤ) → number_of_text (c ∷ cs) ≡ Some z → (c == 34) ≡ false
no_quote c cs z h = grind (arith, nat_tests, and_second, digit_bounds c, and_first)

pub number_first : (rest line : List ℕ) (z : ℤ) → after_blanks rest ≡ line → number_of_text (take (position_or_len is_blank line) line) ≡ Some z
    → first_for number_of_text (words rest) ≡ Some (z, words (drop (position_or_len is_blank line) line))
number_first rest [] z e h = absurd (cc)
number_first rest (c ∷ cs) z e h = by_blank (is_blank c) refl
  where
    by_blank : (b : Bool) → is_blank c ≡ b → first_for number_of_text (words rest) ≡ Some (z, words (drop (position_or_len is_blank (c ∷ cs)) (c ∷ cs)))
    by_blank true blank = let none : number_of_text (take (position_or_len is_blank (c ∷ cs)) (c ∷ cs)) ≡ None = rw blank refl in absurd (cc)
    by_blank false blank =
        let here : position_or_len is_blank (c ∷ cs) ≡ suc (position_or_len is_blank cs) = rw blank (omega arith) in
        let says : number_of_text (c ∷ take (position_or_len is_blank cs) cs) ≡ Some z = rw here at h in
        let first = takes_plain rest c cs e (no_quote c (take (position_or_len is_blank cs) cs) z says) in
        rw here (rw first (rw says refl))
