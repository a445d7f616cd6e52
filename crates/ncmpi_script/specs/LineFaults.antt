-- Faults of lines, and the end of a text.
use Rattle.std.specs.Prelude.{◌≡◌, ℕ, List, [], ◌∷◌, Result, Ok, Err}
use Rattle.nc_base.specs.declared.errors.ScriptKind.TheVariants as kind
use Rattle.script_spec.specs.ScriptWords.{Line}
use Rattle.script_words.specs.declared.lines.Line as own
use Rattle.script_words.specs.declared.fault.ReadErr.{ReadErr}
use Rattle.script_words.specs.declared.fault.ReadErr.TheVariants as errors
use Rattle.script_words.specs.declared.fault.LineErr.{LineErr}
use Rattle.script_words.specs.declared.fault.LineErr.TheVariants as line_errors
use Rattle.script_words.specs.Seen.{line_seen}

-- what is wrong, and on which line
abbrev pub on_line : ℕ → ReadErr → LineErr
on_line n errors.Memory = line_errors.Memory
on_line n (errors.Fault k) = line_errors.Fault (record { line = n; kind = k })

-- the first of the lines before, and the lines after it; or there is none, which is a fault past the last line
abbrev pub TakesLine : ℕ → Result own.Line LineErr → List Line → List Line → Type 0
TakesLine past (Ok l) old new = old ≡ line_seen l ∷ new
TakesLine past (Err line_errors.Memory) old new = Unit {0}
TakesLine past (Err (line_errors.Fault e)) old new = (old ≡ []) × (e ≡ record { line = past; kind = kind.NoEnd })
