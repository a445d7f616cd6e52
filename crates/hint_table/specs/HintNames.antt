-- The hints by name: the place and the row of each in the table.
use Rattle.std.specs.Prelude.{ℕ, ◌<◌, List, Option, find, bytes_eq}
use Rattle.nc_base.specs.declared.script.Hints.{Hints}
use Rattle.script_spec.specs.HintTable.{HintForm, Within, Either, HintRow, hint_row, hint_or}
use Rattle.hint_table.specs.declared.HintForm as code_form
use Rattle.hint_table.specs.declared.HintForm.TheVariants as form
use Rattle.hint_table.specs.declared.HintName.{HintName}
use Rattle.hint_table.specs.declared.HintName.TheVariants as hint

abbrev pub hint_place : HintName → ℕ
hint_place hint.CbNodes = 0
hint_place hint.CbBuffer = 1
hint_place hint.RdBuffer = 2
hint_place hint.WrBuffer = 3
hint_place hint.LineRoom = 4
hint_place hint.Threads = 5
hint_place hint.Overlap = 6
hint_place hint.HeaderAlign = 7
hint_place hint.VarAlign = 8
hint_place hint.StripingUnit = 9

abbrev pub row_of : HintName → HintRow
row_of name = hint_row (hint_place name)

-- the first of the hints with this word
abbrev pub first_with : List HintName → List ℕ → Option HintName
first_with names w = find (λ name. bytes_eq w (row_of name).word) names

-- the hint as it is given, or its default
abbrev pub with_hint : ℕ → List (Option ℕ) → Hints → HintName → Hints
with_hint ranks given hints name = (row_of name).set (hint_or given (hint_place name) ((row_of name).default ranks)) hints

abbrev pub form_of : code_form.HintForm → HintForm
form_of (form.Within low high unit) = Within low high unit
form_of (form.Either zero_word one_word) = Either zero_word.now one_word.now

-- what a size is to be a multiple of is not 0
abbrev pub HasUnit : code_form.HintForm → Type 0
HasUnit (form.Within low high unit) = 0 < unit
HasUnit (form.Either zero_word one_word) = Unit {0}
