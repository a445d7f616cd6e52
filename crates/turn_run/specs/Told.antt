-- What a run tells: each mark of its order, with the file's record count after the step. (own)
--     counts_along step count u marks     each mark with the count after it, by steps from u
--     told_over s stand marks             the same of ranks at their next offers
--     told_marks told                     the marks alone, where it is known what was told
--     HasToldMore ..                      the marks that were added to an order were told
--     HasTold ..                          the marks of a whole run's order were told
use Rattle.std.specs.Prelude.{◌≡◌, ℕ, List, [], ◌∷◌, ◌++◌, map, Option, IfSome}
use Rattle.std.specs.Option.{option_map}
use Rattle.nc_base.specs.declared.header.Header.{Header}
use Rattle.nc_base.specs.declared.script.Script.{Script}
use Rattle.nc_base.specs.declared.step.Mark.{Mark}
use Rattle.nc_outside.specs.Told.{with_end}
use Rattle.serial_spec.specs.FileStep.{Setting}
use Rattle.serial_spec.specs.Readings.{told_of}
use Rattle.collective_round.specs.Rounds.{counted}
use Rattle.run_laws.specs.Arrivals.{Arrived, Stand, step_to}
use Rattle.turn_run.specs.Known.{Point}

abbrev pub counts_along : {U : Type 0} → (U → Mark → U) → (U → ℕ) → U → List Mark → List (Mark × ℕ)
counts_along step count u [] = []
counts_along step count u (m ∷ marks) = (m, count (step u m)) ∷ counts_along step count (step u m) marks

abbrev pub told_over : Setting → Stand → List Mark → List (Mark × ℕ)
told_over s stand marks = counts_along (step_to s) (λ at. at.0.records) stand marks

abbrev pub told_marks : Option (List (Mark × ℕ)) → Option (List Mark)
told_marks told = option_map (map (λ t. t.0)) told

-- from a point with ranks at their next offers to an order
pub record HasToldMore (s : Setting) (from : Point) (ranks : List Arrived) (now : List Mark) (told heard : Option (List (Mark × ℕ))) : Type 0 where
  pub more : List Mark
  pub grown : now ≡ from.order ++ more
  pub marks : told_marks heard ≡ with_end (told_marks told) more
  pub counts : IfSome from.held (λ file. heard ≡ with_end told (told_over s (counted file from.records, ranks) more))

-- With a fault too. Where the bytes are not told, the marks are known, and not the counts.
pub record HasTold (script : Script) (header : Header) (held : Option (List ℕ)) (before now : Option (List (Mark × ℕ))) (order : List Mark) : Type 0 where
  pub marks : told_marks now ≡ with_end (told_marks before) order
  pub counts : IfSome held (λ file. now ≡ with_end before (told_of script header file order))
