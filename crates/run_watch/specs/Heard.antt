-- What clauses see of a board, a view and a note: the record count before the first step, and each mark that was told with the count after it. (own)
--     summary heard                   what a watcher reads of it
--     opened records                  nothing was told yet
--     with_pair heard mark records    once this was told too
--     IsBeginning early late          the second was told what the first was, and maybe more
--     longer one other                the one that was told more, or else the first
--     BeginOneList one other          there is something told of which both are beginnings, as is all that views and notes of one board have heard
use Rattle.std.specs.Prelude.{◌≡◌, ℕ, [], ◌∷◌, ◌++◌, length, nat_lt, if◌then◌else◌}
use mathlib.Core.List.{IsPrefix}
use Rattle.nc_base.specs.declared.step.Mark.{Mark}
use Rattle.nc_base.specs.declared.run.Summary.{Summary}
use Rattle.serial_spec.specs.Readings.{summary_of}
use Rattle.run_watch.specs.declared.rule.Heard.{Heard}

abbrev pub summary : Heard → Summary
summary heard = summary_of heard.opening heard.pairs

abbrev pub opened : ℕ → Heard
opened records = record { opening = records; pairs = [] }

abbrev pub with_pair : Heard → Mark → ℕ → Heard
with_pair heard mark records = record { opening = heard.opening; pairs = heard.pairs ++ (mark, records) ∷ [] }

abbrev pub IsBeginning : Heard → Heard → Type 0
IsBeginning early late = (early.opening ≡ late.opening) × IsPrefix early.pairs late.pairs

abbrev pub longer : Heard → Heard → Heard
longer one other = if nat_lt (length one.pairs) (length other.pairs) then other else one

abbrev pub BeginOneList : Heard → Heard → Type 0
BeginOneList one other = (told : Heard) × IsBeginning one told × IsBeginning other told
