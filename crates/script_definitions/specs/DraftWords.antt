-- Lines before `data`, with names for their parts that proofs keep shut.
use Rattle.std.specs.Prelude.{bytes_eq, ℕ, ◌+◌, List, true, false, Option, Some, is_some, Result, Ok, slice_set, codes, ◌==◌}
use Rattle.nc_base.specs.declared.errors.ScriptKind.{ScriptKind}
use Rattle.nc_base.specs.declared.errors.ScriptKind.TheVariants as kind
use Rattle.nc_base.specs.declared.header.NcType.{NcType}
use Rattle.nc_base.specs.declared.header.Attr.{Attr}
use Rattle.script_spec.specs.ScriptWords.{Word}
use Rattle.script_spec.specs.ScriptSteps.{◌>>=◌, refuse_if, reads_as, ended}
use Rattle.script_spec.specs.ScriptValues.{values}
use Rattle.script_spec.specs.HintTable.{hint_of_text, hint_form, hint_in}
use Rattle.script_spec.specs.ScriptDefinitions.{Known, Defined, Added, addition, definition, ranks_line, hint_line, hint_value, attr_of}

-- the hint of the next word, by its place in the table
unfoldable pub hint_name_by : List Word → Result (ℕ × List Word) ScriptKind
hint_name_by ws = reads_as hint_of_text kind.UnknownWord ws

-- the value of the hint at that place
unfoldable pub hint_value_by : ℕ → List Word → Result (ℕ × List Word) ScriptKind
hint_value_by h ws = hint_value (hint_form h) ws

-- which hint, and its value
unfoldable pub hint_line_by : List (Option ℕ) → List Word → Result (ℕ × ℕ) ScriptKind
hint_line_by given ws = do
  h ← hint_name_by ws
  _ ← refuse_if (is_some (hint_in h.0 given)) kind.TwiceNamed
  v ← hint_value_by h.0 h.1
  _ ← ended v.1
  Ok (h.0, v.0)

-- an attribute of this name and type, by its values
abbrev pub attr_by : List ℕ → NcType → ℕ → List Word → Result Attr ScriptKind
attr_by name t before ws = values (Some t) before ws >>= λ vs. Ok (attr_of name t vs)

unfoldable pub addition_by : ℕ → Added → List ℕ → List Word → Result (ℕ × Added) ScriptKind
addition_by before d first ws = addition before d first ws

unfoldable pub definition_by : ℕ → ℕ → Defined → List ℕ → List Word → Result (ℕ × Defined) ScriptKind
definition_by version before d first ws = definition version before d first ws

unfoldable pub known_added : Known → List ℕ → List Word → Result Known ScriptKind
known_added known first ws = addition_by known.values known.added first ws >>= λ x. Ok (record known { added = x.1; values = known.values + x.0 })

unfoldable pub known_defined : ℕ → Known → List ℕ → List Word → Result Known ScriptKind
known_defined version known first ws = definition_by version known.values known.defined first ws >>= λ x. Ok (record known { defined = x.1; values = known.values + x.0 })

-- what is known after a line of the definitions
unfoldable pub known_by : ℕ → Known → List ℕ → List Word → Result Known ScriptKind
known_by version known first ws = elim (version == 0) [ true ↦ known_added known first ws | false ↦ known_defined version known first ws ]

-- the same of a line that says something of the run
unfoldable pub ranks_by : Known → List Word → Result Known ScriptKind
ranks_by known ws = ranks_line known.ranks ws >>= λ n. Ok (record known { ranks = Some n })

unfoldable pub hint_by : Known → List Word → Result Known ScriptKind
hint_by known ws = hint_line known.hints ws >>= λ h. Ok (record known { hints = slice_set known.hints h.0 (Some h.1) })

-- the same of any line
unfoldable pub line_by : ℕ → Known → List ℕ → List Word → Result Known ScriptKind
line_by version known first ws =
    elim (bytes_eq first (codes "ranks")) [
      | true ↦ ranks_by known ws
      | false ↦ elim (bytes_eq first (codes "hint")) [
        | true ↦ hint_by known ws
        | false ↦ known_by version known first ws
      ]
    ]
