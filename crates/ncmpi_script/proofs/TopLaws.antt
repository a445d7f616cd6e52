-- A whole script is what the definitions say.
use Rattle.ncmpi_script.proofs.Words.{◌≡◌, ◌∙◌, ℕ, List, [], ◌∷◌, Err, Bool, true, false, nat_lt, ◌==◌, length, take, refl, ap, utf8_valid_len, Line, Word, Known, Called, call_step, definition_step, script_of_lines, script_of_text, without_head, most_bytes, head_by, known_by, definition_by, called_by, call_by, definitions_by, data_part_by, finish_by, made_by, end_by, calls_by, rest_by, headed_by, lines_by, utf8_by, text_by, arith, nat_tests}
use Rattle.nc_base.specs.declared.errors.LimitName.TheVariants as limit
use Rattle.nc_base.specs.declared.errors.ScriptKind.TheVariants as kind

pub same_definition : (version : ℕ) (known : Known) (w : Word) (ws : List Word) → definition_by version known w ws ≡ definition_step version known w ws
unfolding known_by definition_by
same_definition version known w ws = refl

pub same_call : (d : Called) (w : Word) (ws : List Word) → call_by d w ws ≡ call_step d w ws
unfolding called_by call_by
same_call d w ws = refl

no_line : (past : ℕ) → script_of_lines past [] ≡ Err (without_head past)
no_line past = refl

a_line : (past : ℕ) (l : Line) (lines : List Line) → script_of_lines past (l ∷ lines) ≡ headed_by past l lines
unfolding head_by definitions_by data_part_by finish_by made_by end_by calls_by rest_by headed_by
a_line past l lines = refl

pub lines_none : (past : ℕ) (lines : List Line) → lines ≡ [] → lines_by past lines ≡ Err (without_head past)
unfolding lines_by
lines_none past lines e = ap (script_of_lines past) e ∙ no_line past

pub lines_some : (past : ℕ) (lines rest : List Line) (l : Line) → lines ≡ l ∷ rest → lines_by past lines ≡ headed_by past l rest
unfolding lines_by
lines_some past lines rest l e = ap (script_of_lines past) e ∙ a_line past l rest

pub same_text : (text : List ℕ) → text_by text ≡ script_of_text text
unfolding lines_by utf8_by text_by
same_text text = refl

-- what two tests choose
abbrev pick : {A : Type 0} → Bool → Bool → A → A → A → A
pick true b x y z = x
pick false false x y z = y
pick false true x y z = z

is_pick : {A : Type 0} (a b : Bool) (x y z : A) → elim a as (λ t. A) [ true ↦ x | false ↦ elim b as (λ t. A) [ false ↦ y | true ↦ z ] ] ≡ pick a b x y z
is_pick true b x y z = refl
is_pick false false x y z = refl
is_pick false true x y z = refl

pub text_is : (text : List ℕ) → nat_lt most_bytes (length text) ≡ false → (utf8_valid_len text == length text) ≡ true → text_by text ≡ utf8_by text
unfolding text_by
text_is text short valid = grind (arith, nat_tests, is_pick, nat_lt, text_by, utf8_by, pick, utf8_valid_len, take)
