-- What the program's own forms of the words mean.
use Rattle.std.specs.Prelude.{◌≤◌, option_map}
use Rattle.program_words.specs.Words as words
use Rattle.program_words.specs.declared.command.Form.{Form}
use Rattle.program_words.specs.declared.command.Form.TheVariants.{Run, Offsets, Generate}
use Rattle.program_words.specs.declared.command.Options.{Options}

abbrev pub asked_of : Form → words.Asked
asked_of (Run watchers dataset) = words.run watchers dataset.now
asked_of (Offsets name) = words.offsets name.now
asked_of (Generate seed size dataset) = words.generate seed size dataset.now

abbrev pub options_of : Options → words.Options
options_of o = record {
  offsets = o.offsets;
  generate = option_map (λ w. w.now) o.generate;
  size = option_map (λ w. w.now) o.size;
  watch = option_map (λ w. w.now) o.watch;
  dataset = option_map (λ w. w.now) o.dataset;
}

-- a run has 8 watchers at most, and a script is made with 1 to 64 records
abbrev pub IsWithinLimits : Form → Type 0
IsWithinLimits (Run watchers dataset) = watchers ≤ 8
IsWithinLimits (Offsets name) = Unit {0}
IsWithinLimits (Generate seed size dataset) = (1 ≤ size) × (size ≤ 64)
