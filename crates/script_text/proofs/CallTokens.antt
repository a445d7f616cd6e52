-- The words of a call that is printed.
use Rattle.script_text.proofs.Words.{◌≡◌, ◌∙◌, ℕ, List, [], ◌∷◌, ◌++◌, map, true, ap, decimal, Values, Given, Call, call_word, call_words, region_words, shown_values, Word, Plain, Family, Requests, Size, Name, Record, Nothing, Behind, CallRow, of_behind, HasNoRegion, IsRow, made_behind, arith, nat_tests, common_steps}
use Rattle.script_text.proofs.Lexing.{spelling, is_plain}
use Rattle.script_text.proofs.PrintedValues.{value_tokens, values_spelled}
use Rattle.script_text.proofs.PrintedRegions.{region_tokens, region_spelled, choice_tokens, choice_spelled}
use Rattle.nc_base.specs.declared.request.Call.TheVariants as call

-- ---- calls as they are printed

abbrev pub tokens_behind : (f : Family) → Behind f → List Word
tokens_behind Requests c = choice_tokens c
tokens_behind Size n = Plain (decimal n) ∷ []
tokens_behind Name n = Plain n ∷ []
tokens_behind Record v = Plain v.0 ∷ Plain (decimal v.1) ∷ []
tokens_behind Nothing _ = []

-- what follows a call's word
abbrev pub call_tokens : Call → List Word
call_tokens (call.Put all n g vs) = Plain n ∷ (region_tokens g.form g ++ value_tokens vs)
call_tokens (call.Get all n g) = Plain n ∷ region_tokens g.form g
call_tokens (call.Post id k n g vs) = Plain (decimal id) ∷ Plain n ∷ (region_tokens g.form g ++ value_tokens vs)
call_tokens c = of_behind [] tokens_behind c

apart_tokens : (c : Call) → HasNoRegion c → call_tokens c ≡ of_behind [] tokens_behind c
apart_tokens c h = grind (arith, nat_tests)

pub made_tokens : (row : CallRow) → IsRow row → (ranks r : ℕ) (b : Behind row.family) → call_tokens (row.made ranks r b) ≡ tokens_behind row.family b
made_tokens row is ranks r b = apart_tokens (row.made ranks r b) (is.apart ranks r b) ∙ made_behind row is ranks r b [] tokens_behind

both_spelled : (g : Given) (vs : Values) → map spelling (region_tokens g.form g ++ value_tokens vs) ≡ region_words g ++ shown_values vs
both_spelled g vs = grind (arith, common_steps, region_spelled g.form g, values_spelled vs)

pub call_spelled : (c : Call) → map spelling (call_tokens c) ≡ call_words c
call_spelled (call.Put all n g vs) = ap (λ (ws : List (List ℕ)). n ∷ ws) (both_spelled g vs)
call_spelled c = grind (arith, nat_tests, region_spelled, both_spelled, choice_spelled)

pub call_plain : (c : Call) → is_plain (call_word c) ≡ true
call_plain c = grind (arith, nat_tests)
