-- Values that are printed are read as the same values.
use Rattle.script_text.proofs.Words.{◌≡◌, ℕ, ◌^◌, ◌<◌, List, [], ◌∷◌, map, length, Bool, true, nat_lt, Option, Some, ℤ, unsigned_abs, refl, sym, ap, subst, arith, signed_decimal, list_all, list_all-map, ◌∙◌, and_parts, and_from, cond-true, sixteens, NcType, Values, Numbers, Text, Bits, hex, shown_values, Word, Plain, Quoted, number_of_text, bits_of_text, are_text, may_be, may_have, number_for, pattern_for, nat_tests, Each, OfBits, OfNothing, OfNumbers, OfText, SpellsValues, ltb-true, lt-ltb}
use Rattle.script_text.proofs.Lexing.{spelling, is_byte, is_good, is_plain}
use Rattle.script_text.proofs.Numerals.{number_plain, number_again, bits_again, bits_bound, hex_graphic}
use Rattle.script_laws.proofs.ValueLaws.{number_small}
use Rattle.script_laws.proofs.Sequences.{is_fit_number, is_fit_pattern, numbers_fit, patterns_fit}
use Rattle.nc_base.specs.declared.request.Value.TheVariants as value
use Rattle.script_spelling.proofs.Rooms.{fit_from}
use Rattle.script_spelling.proofs.Steps.{all_more}

-- ---- values as they are printed

abbrev pub value_tokens : Values → List Word
value_tokens (Numbers zs) = map (λ z. Plain (signed_decimal z)) zs
value_tokens (Text text) = Quoted text ∷ []
value_tokens (Bits ns) = map (λ n. Plain (120 ∷ hex 16 n)) ns

pub plain_spelled : {A : Type 0} (p : A → List ℕ) (xs : List A) → map spelling (map (λ x. Plain (p x)) xs) ≡ map p xs
plain_spelled p [] = refl
plain_spelled p (x ∷ xs) = ap (λ (ws : List (List ℕ)). p x ∷ ws) (plain_spelled p xs)

pub values_spelled : (vs : Values) → map spelling (value_tokens vs) ≡ shown_values vs
values_spelled (Numbers zs) = plain_spelled signed_decimal zs
values_spelled (Text text) = refl
values_spelled (Bits ns) = plain_spelled (λ n. 120 ∷ hex 16 n) ns

-- ---- what is read of values

-- a text of a line has bytes
abbrev pub is_read : Word → Bool
is_read (Quoted text) = list_all is_byte text
is_read _ = true

abbrev pub AreFit : Option NcType → Values → Type 0
AreFit t (Numbers zs) = list_all (is_fit_number t) zs ≡ true
AreFit t (Text text) = (list_all is_byte text ≡ true) × (may_be are_text t ≡ true)
AreFit t (Bits ns) = (list_all (is_fit_pattern t) ns ≡ true) × (0 < length ns)

-- what words that are read spell holds of each that passes it
pub each_passed : {A : Type 0} (f : List ℕ → Option A) (test : A → Bool) → ((w : List ℕ) (x : A) → f w ≡ Some x → test x ≡ true) → (ws : List Word) (xs : List A) → Each f ws xs → list_all test xs ≡ true
each_passed f test passes (w ∷ ws) (x ∷ xs) h = and_from _ _ (passes h.0.0 x h.0.2) (each_passed f test passes ws xs h.1)
each_passed f test passes ws xs h = grind (arith, nat_tests)

number_fit : (t : Option NcType) (w : List ℕ) (z : ℤ) → number_for t w ≡ Some z → is_fit_number t z ≡ true
number_fit t w z h = fit_from (number_of_text w) (λ y. may_have t (value.Number y)) (λ y. nat_lt (unsigned_abs y) (10 ^ 20)) z (λ y e. lt-ltb (unsigned_abs y) (10 ^ 20) (number_small w y e)) h

pattern_fit : (t : Option NcType) (w : List ℕ) (n : ℕ) → pattern_for t w ≡ Some n → is_fit_pattern t n ≡ true
pattern_fit t w n h = fit_from (bits_of_text w) (λ y. may_have t (value.Bits y)) (λ y. nat_lt y (2 ^ 64)) n (λ y e. lt-ltb y (2 ^ 64) (bits_bound w y e)) h

pub are_fit : (t : Option NcType) (ws : List Word) (vs : Values) → SpellsValues t ws vs → list_all is_read ws ≡ true → AreFit t vs
are_fit t ws vs (OfNothing none same) read = subst (AreFit t) (sym same) refl
are_fit t ws vs xs read = grind (arith, nat_tests, each_passed, number_fit t, pattern_fit t, numbers_fit t, patterns_fit)

-- ---- printed values again

number_for_again : (t : Option NcType) (z : ℤ) → is_fit_number t z ≡ true → number_for t (signed_decimal z) ≡ Some z
number_for_again t z h = grind (arith, nat_tests, and_parts, number_again, ltb-true, cond-true)

pattern_word_again : (n k : ℕ) → k ≡ 16 → n < 2 ^ 64 → bits_of_text (120 ∷ hex k n) ≡ Some n
pattern_word_again n k e h = bits_again k n (omega arith) (omega arith) (subst (λ j. n < sixteens j) (sym e) h)

pattern_for_again : (t : Option NcType) (n : ℕ) → is_fit_pattern t n ≡ true → pattern_for t (120 ∷ hex 16 n) ≡ Some n
pattern_for_again t n h = grind (arith, nat_tests, and_parts, pattern_word_again n 16 refl, ltb-true, cond-true)

pub each_spells : {A : Type 0} (f : List ℕ → Option A) (test : A → Bool) (p : A → List ℕ) → ((x : A) → test x ≡ true → f (p x) ≡ Some x) → (xs : List A) → list_all test xs ≡ true → Each f (map (λ x. Plain (p x)) xs) xs
each_spells f test p again [] h = tt
each_spells f test p again (x ∷ xs) h = let both = and_parts (test x) (list_all test xs) h in ((p x, refl, again x both.0), each_spells f test p again xs both.1)

pub values_spell : (t : Option NcType) (vs : Values) → AreFit t vs → SpellsValues t (value_tokens vs) vs
values_spell t (Numbers zs) h = OfNumbers zs (each_spells (number_for t) (is_fit_number t) signed_decimal (number_for_again t) zs h) refl
values_spell t (Text text) h = OfText text refl h.1 refl
values_spell t (Bits ns) h = OfBits ns h.1 (each_spells (pattern_for t) (is_fit_pattern t) (λ n. 120 ∷ hex 16 n) (pattern_for_again t) ns h.0) refl

-- ---- they are cut again

pub mapped_good : {A : Type 0} (test : A → Bool) (p : A → List ℕ) → ((x : A) → test x ≡ true → is_plain (p x) ≡ true) → (xs : List A) → list_all test xs ≡ true → list_all is_good (map (λ x. Plain (p x)) xs) ≡ true
mapped_good test p good xs h = list_all-map is_good (λ x. Plain (p x)) xs ∙ all_more test (λ x. is_plain (p x)) good xs h

pub values_good : (t : Option NcType) (vs : Values) → AreFit t vs → list_all is_good (value_tokens vs) ≡ true
values_good t (Numbers zs) h = mapped_good (is_fit_number t) signed_decimal (λ z fit. number_plain z (ltb-true (unsigned_abs z) (10 ^ 20) (and_parts _ _ fit).0)) zs h
values_good t (Bits ns) h = mapped_good (is_fit_pattern t) (λ n. 120 ∷ hex 16 n) (λ n fit. hex_graphic 16 n) ns h.0
values_good t (Text text) h = and_from _ _ h.0 refl
