-- Whole scripts, with names for their parts that proofs keep shut.
use Rattle.std.specs.Prelude.{bytes_eq, ℕ, ◌+◌, List, length, Bool, true, false, Option, Some, None, Result, Ok, Err, codes, nat_lt, take, ◌==◌}
use Rattle.std.specs.Str.Lossy.{utf8_valid_len}
use Rattle.nc_base.specs.declared.errors.ScriptErr.{ScriptErr}
use Rattle.nc_base.specs.declared.errors.ScriptKind.{ScriptKind}
use Rattle.nc_base.specs.declared.errors.ScriptKind.TheVariants as kind
use Rattle.nc_base.specs.declared.errors.LimitName.TheVariants as limit
use Rattle.nc_base.specs.declared.request.Call.{Call}
use Rattle.nc_base.specs.declared.script.Script.{Script}
use Rattle.script_spec.specs.ScriptWords.{Line, Word, text_lines, significant}
use Rattle.script_spec.specs.ScriptSteps.{◌>>=◌, bare, whole}
use Rattle.script_spec.specs.ScriptDefinitions.{Known, known_after, nothing_known}
use Rattle.script_spec.specs.ScriptCalls.{Called, called_after}
use Rattle.script_spec.specs.ScriptGrammar.{no_calls, at_line, head, data_line, definitions, data_part, finish, script_of, script_of_lines, within_lines, most_bytes, newlines}

unfoldable pub head_by : Line → Result ℕ ScriptErr
head_by l = at_line l.number (head l.first l.rest)

-- what is known after a line of the definitions
unfoldable pub known_by : ℕ → Known → List ℕ → List Word → Result Known ScriptKind
known_by version known first ws = known_after version known first ws

-- such a line: the number of ranks at `data`, and what is known then
unfoldable pub definition_by : ℕ → Known → Word → List Word → Result (Option ℕ × Known) ScriptKind
definition_by version known w ws = do
  first ← bare w
  elim (bytes_eq first (codes "data")) [
    | true ↦ (data_line known ws >>= λ ranks. Ok (Some ranks, known))
    | false ↦ (known_by version known first ws >>= λ more. Ok (None, more))
  ]

unfoldable pub definitions_by : ℕ → ℕ → List Line → Result (ℕ × (Known × List Line)) ScriptErr
definitions_by past version lines = definitions past version nothing_known lines

-- what has been called after a line of the calls
unfoldable pub called_by : Called → List ℕ → List Word → Result Called ScriptKind
called_by d first ws = called_after d first ws

-- such a line: whether it is `end`, and what has been called then
unfoldable pub call_by : Called → Word → List Word → Result (Bool × Called) ScriptKind
call_by d w ws = do
  first ← bare w
  elim (bytes_eq first (codes "end")) [
    | true ↦ whole ((true, d), ws)
    | false ↦ (called_by d first ws >>= λ more. Ok (false, more))
  ]

unfoldable pub data_part_by : ℕ → ℕ → Known → List Line → Result (ℕ × (Called × List Line)) ScriptErr
data_part_by past ranks known lines = data_part past (no_calls ranks known) lines

unfoldable pub finish_by : ℕ → List (List Call) → List Line → Result (Unit {0}) ScriptErr
finish_by n calls lines = finish n calls lines

unfoldable pub made_by : ℕ → ℕ → Known → List (List Call) → Script
made_by version ranks known calls = script_of version ranks known calls

-- from line n of `end` on
unfoldable pub end_by : ℕ → ℕ → Known → ℕ → List (List Call) → List Line → Result Script ScriptErr
end_by version ranks known n calls lines = finish_by n calls lines >>= λ u. Ok (made_by version ranks known calls)

-- from `data` on
unfoldable pub calls_by : ℕ → ℕ → ℕ → Known → List Line → Result Script ScriptErr
calls_by past version ranks known lines = data_part_by past ranks known lines >>= λ c. end_by version ranks known c.0 c.1.0.calls c.1.1

-- what follows the head
unfoldable pub rest_by : ℕ → ℕ → List Line → Result Script ScriptErr
rest_by past version lines = definitions_by past version lines >>= λ d. calls_by past version d.0 d.1.0 d.1.1

-- the line of the head, and what follows it
unfoldable pub headed_by : ℕ → Line → List Line → Result Script ScriptErr
headed_by past l lines = head_by l >>= λ version. rest_by past version lines

unfoldable pub lines_by : ℕ → List Line → Result Script ScriptErr
lines_by past lines = script_of_lines past lines

unfoldable pub utf8_by : List ℕ → Result Script ScriptErr
utf8_by text = within_lines (length (text_lines text)) (lines_by (length (text_lines text) + 1) (significant text))

unfoldable pub text_by : List ℕ → Result Script ScriptErr
text_by text =
    elim (nat_lt most_bytes (length text)) [
      | true ↦ Err (record { line = 1; kind = kind.Limit limit.Script })
      | false ↦ elim (utf8_valid_len text == length text) [
        | false ↦ Err (record { line = newlines (take (utf8_valid_len text) text) + 1; kind = kind.NotUtf8 })
        | true ↦ utf8_by text
      ]
    ]
