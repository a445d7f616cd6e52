-- What a step of a run tells its ranks, and what they answer. (own)
--     told_at script header file before m          what the step of mark m tells after these marks: a pair, or none
--     meeting_call k calls                         the number of the rank's call that makes its meeting k
--     IsToldAt answers n pair                      call n has an answer, and it has the pair, or none
use Rattle.std.specs.Prelude.{◌≡◌, ℕ, zero, suc, ◌+◌, true, false, List, [], ◌∷◌, Option, Some, slice_get}
use Rattle.nc_base.specs.declared.answer.Answer.{Answer}
use Rattle.nc_base.specs.declared.answer.Pair.{Pair}
use Rattle.nc_base.specs.declared.header.Header.{Header}
use Rattle.nc_base.specs.declared.request.Call.{Call}
use Rattle.nc_base.specs.declared.script.Script.{Script}
use Rattle.serial_spec.specs.History.{is_collective}
use Rattle.nc_base.specs.declared.step.Mark.{Mark}
use Rattle.serial_spec.specs.FileStep.{told}
use Rattle.serial_spec.specs.SerialEnd.{setting_of, state_after}
use Rattle.whole_run_laws.specs.Completed.{puts_at}

abbrev pub told_at : Script → Header → List ℕ → List Mark → Mark → Option Pair
told_at script header file before m = told (setting_of script header) (puts_at (setting_of script header) (state_after script header file before) m)

-- its collective call number k, counted from 0
abbrev pub meeting_call : ℕ → List Call → ℕ
meeting_call k [] = 0
meeting_call k (c ∷ calls) =
    elim (is_collective c) [
      | true ↦ elim k [ zero ↦ 0 | suc j ↦ meeting_call j calls + 1 ]
      | false ↦ meeting_call k calls + 1
    ]

abbrev pub IsToldAt : List Answer → ℕ → Option Pair → Type 0
IsToldAt answers n pair = (a : Answer) × (slice_get answers n ≡ Some a) × (a.pair ≡ pair)
