-- A whole script that is read.
use Rattle.script_laws.proofs.Words.{◌≡◌, ℕ, suc, ◌+◌, ◌≤◌, List, [], ◌∷◌, length, take, true, false, not, Option, Some, None, Ok, Err, IfOk, IfSome, arith, nat_lt, nat_le, ◌==◌, bytes_eq, codes, utf8_valid_len, enumerate_from, length-enumerate_from, cond_some, faultless_some, if_some_at, Call, Script, is_version, agree, Word, Line, text_lines, significant, significant_of, ◌>>=◌, bare, Known, nothing_known, known_after, at_line, head, data_line, definition_step, definitions, data_part, finish, script_of, no_calls, script_of_lines, most_bytes, most_lines, newlines, script_of_utf8, script_of_text, Reads, nat_tests, ltb-false, common_steps}
use Rattle.nc_base.specs.declared.errors.ScriptKind.TheVariants as kind
use Rattle.script_laws.proofs.StepLaws.{first_then, then_with, ok_then, by_test, by_some, if_read, read_as, whole_line, at_line_kept}
use Rattle.script_laws.proofs.WordLaws.{InRange}
use Rattle.script_laws.proofs.CalledLaws.{FitsCalled, calls_read, no_calls_fit}
use Rattle.script_laws.proofs.AgreeLaws.{finish_agreed}
use Rattle.script_laws.proofs.DefinedLaws.{FitsKnown, nothing_known_fits, later_known, known_more}

-- ---- the head

-- a version, or that of an existing dataset
abbrev pub IsHead : ℕ → Type 0
IsHead version = (version == 0) ≡ false → is_version version ≡ true

head_read : (w : Word) (ws : List Word) → IfOk (head w ws) IsHead
head_read w ws = grind (arith, nat_tests, by_test, bytes_eq, codes, whole_line, then_with, read_as, cond_some, first_then)

-- ---- the definitions

record FitsStep (version lines : ℕ) (s : Option ℕ × Known) : Type 0 where
  known : FitsKnown version lines s.1
  ranks : IfSome s.0 (InRange 1 64 1)

step_kept : (version lines : ℕ) (known : Known) (w : Word) (ws : List Word) → FitsKnown version lines known → IfOk (definition_step version known w ws) (FitsStep version (suc lines))
step_kept version lines known w ws f =
    first_then (bare w) _ _ (λ first _.
    by_test (bytes_eq first (codes "data")) (data_line known ws >>= λ ranks. Ok (Some ranks, known)) (known_after version known first ws >>= λ more. Ok (None, more)) (FitsStep version (suc lines))
    (λ _. grind (arith, nat_tests, first_then, then_with, whole_line, if_some_at (InRange 1 64 1) known.ranks, faultless_some, f.ranks, later_known version lines (suc lines)))
    (λ _. then_with (known_after version known first ws) _ _ (FitsKnown version (suc lines)) (known_more version lines known first ws f) (λ more fits. record { known = fits; ranks = tt })))

-- what the definitions give
pub record FitsDefinitions (version most : ℕ) (r : ℕ × (Known × List Line)) : Type 0 where
  pub known : FitsKnown version most r.1.0
  pub ranks : InRange 1 64 1 r.0
  pub rest : length r.1.1 ≤ most

definitions_kept : (past version lines most : ℕ) (known : Known) (ls : List Line) → lines + length ls ≤ most → FitsKnown version lines known
    → IfOk (definitions past version known ls) (FitsDefinitions version most)
definitions_kept past version lines most known [] h f = tt
definitions_kept past version lines most known (l ∷ ls) h f =
    ok_then (at_line l.number (definition_step version known l.first l.rest)) _ (FitsDefinitions version most) (FitsStep version (suc lines))
    (at_line_kept l.number _ (FitsStep version (suc lines)) (step_kept version lines known l.first l.rest f))
    (λ s fits. grind (arith, common_steps, by_some s.0 (λ ranks. Ok (ranks, (s.1, ls))) (definitions past version s.1 ls), later_known version (suc lines) most, if_some_at (InRange 1 64 1) s.0, definitions_kept past version (suc lines) most s.1 ls))

-- ---- the whole

-- of what a script that is read is made, of at most so many lines
pub record FitsParts (most version size : ℕ) (found : Known) (called : List (List Call)) : Type 0 where
  pub head : IsHead version
  pub known : FitsKnown version most found
  pub ranks : InRange 1 64 1 size
  pub values : ℕ
  pub calls : FitsCalled size most found.values (record { calls = called; values = values })
  pub agreed : agree called ≡ true

lines_kept : (past most : ℕ) (ls : List Line) (P : Script → Type 0) → length ls ≤ most
    → ((version ranks : ℕ) (known : Known) (calls : List (List Call)) → FitsParts most version ranks known calls → P (script_of version ranks known calls))
    → IfOk (script_of_lines past ls) P
lines_kept past most [] P h f = tt
lines_kept past most (l ∷ ls) P h f =
    then_with (at_line l.number (head l.first l.rest)) _ _ IsHead (at_line_kept l.number _ IsHead (head_read l.first l.rest)) (λ version good.
    then_with (definitions past version nothing_known ls) _ _ (FitsDefinitions version most)
    (definitions_kept past version 0 most nothing_known ls (omega arith) (nothing_known_fits version 0)) (λ d fits.
    then_with (data_part past (no_calls d.0 d.1.0) d.1.1) _ _ (λ r. FitsCalled d.0 most d.1.0.values r.1.0)
    (calls_read d.0 d.1.0.values past 0 most (no_calls d.0 d.1.0) d.1.1 (let rest = fits.rest in omega arith) (no_calls_fit d.0 d.1.0.values 0 fits.known.few)) (λ c called.
    first_then (finish c.0 c.1.0.calls c.1.1) _ _ (λ u ended_well.
    f version d.0 d.1.0 c.1.0.calls (record {
      head = good;
      known = fits.known;
      ranks = fits.ranks;
      values = c.1.0.values;
      calls = called;
      agreed = finish_agreed c.0 c.1.0.calls c.1.1 u ended_well;
    })))))

-- ---- the lines of a text

few_significant : (numbered : List (ℕ × List ℕ)) → length (significant_of numbered) ≤ length numbered
few_significant [] = omega arith
few_significant (l ∷ ls) = grind (arith, nat_tests, few_significant ls)

few_lines : (text : List ℕ) → length (significant text) ≤ length (text_lines text)
few_lines text = omega (arith, few_significant (enumerate_from 1 (text_lines text)), length-enumerate_from 1 (text_lines text))

-- What holds of every script that is made of fitting parts holds of one that is read.
pub read_script : (text : List ℕ) (s : Script) (P : Script → Type 0)
    → ((version ranks : ℕ) (known : Known) (calls : List (List Call)) → FitsParts most_lines version ranks known calls → P (script_of version ranks known calls))
    → Reads text s → P s
read_script text s P f h =
    let past = length (text_lines text) + 1 in
    if_read (script_of_text text) P s h (by_test (nat_lt most_bytes (length text)) _ _ P (λ _. tt) (grind (arith, common_steps, by_test (utf8_valid_len text == length text) (script_of_utf8 text) (Err (record { line = newlines (take (utf8_valid_len text) text) + 1; kind = kind.NotUtf8 })) P, lines_kept past most_lines (significant text) P, few_lines text, nat_lt, ltb-false, nat_le, not)))
