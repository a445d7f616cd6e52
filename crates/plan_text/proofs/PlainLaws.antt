-- Texts in which nothing is escaped.
use Rattle.plan_text.proofs.Cited.{◌≡◌, ℕ, zero, suc, ◌+◌, ◌/◌, ◌%◌, List, [], ◌∷◌, ◌++◌, false, Option, refl, arith, decimal, flat_map, digit_glyph, digits, digits_onto, flat_map-append, Call, Mark, call_word, mark_word, json_character, json_text, word_in, nat_tests}
use Rattle.std.proofs.lemmas.List.{append_assoc}
use Rattle.nc_base.specs.declared.request.Call.TheVariants as call
use Rattle.nc_base.specs.declared.request.Form.TheVariants as form

-- each byte is its own character
abbrev pub IsPlain : List ℕ → Type 0
IsPlain text = flat_map json_character text ≡ text

append_plain : (xs ys : List ℕ) → IsPlain xs → IsPlain ys → IsPlain (xs ++ ys)
append_plain xs ys h k =
    rw (flat_map-append json_character xs ys, h, k)

-- such a text between quotes
pub text_pushed : (o x y z word : List ℕ) → IsPlain word → x ≡ o ++ 34 ∷ [] → y ≡ x ++ word → z ≡ y ++ 34 ∷ [] → z ≡ o ++ json_text word
text_pushed o x y z word plain e f g = simp (g, f, e, plain, append_assoc)

-- ---- numbers

digits_plain : (k n : ℕ) (acc : List ℕ) → IsPlain acc → IsPlain (digits_onto k 10 false n acc)
digits_plain zero n acc h = h
digits_plain (suc k) n acc h = grind (arith, nat_tests, digits_plain k (n / 10) (digit_glyph false (n % 10) ∷ acc))

decimal_plain : (n : ℕ) → IsPlain (decimal n)
unfolding digits
decimal_plain n = digits_plain 64 n [] refl

pub mark_plain : (mark : Mark) → IsPlain (mark_word mark)
mark_plain mark = grind (arith, nat_tests, decimal_plain, append_plain)

-- ---- words of calls

call_plain : (c : Call) → IsPlain (call_word c)
call_plain c = grind (arith, nat_tests)

pub word_plain : (o : Option (List Call)) (k : ℕ) → IsPlain (word_in o k)
word_plain o k = grind (arith, nat_tests)
