-- The ends of the ranks of a run, and the close. (own)
--     runner_end stop runner   the end of the rank of a runner
--     NoneBroke ends           no rank ended for want of memory
--     most_known_of ends       the greatest record count that a rank knew at its end
--     HasClosed ..             the close
--     EndedAt ..               how a run ended with a fault
use Rattle.std.specs.Prelude.{◌≡◌, ℕ, ◌⊎◌, List, [], map, max, nat_lt, None, Option, Some, slice_get}
use Rattle.std.specs.Int.{byte_len}
use Rattle.nc_base.specs.declared.header.Header.{Header}
use Rattle.nc_base.specs.declared.run.RankEnd.{RankEnd}
use Rattle.nc_base.specs.declared.run.RankStop.{RankStop}
use Rattle.nc_base.specs.declared.run.RankStop.TheVariants as stop
use Rattle.nc_base.specs.declared.step.DiskCall.{DiskCall}
use Rattle.nc_base.specs.declared.step.StepErr.{StepErr}
use Rattle.nc_base.specs.declared.step.StepErr.TheVariants as fault
use Rattle.nc_outside.specs.Told.{after, with_end, BothTold}
use Rattle.serial_spec.specs.DeviceCalls.{store_records}
use Rattle.serial_spec.specs.FileStep.{raised}
use Rattle.serial_spec.specs.HeaderBytes.{count_width}
use Rattle.serial_spec.specs.Layout.{greatest}
use Rattle.serial_spec.specs.RankMachine as machine
use Rattle.serial_spec.specs.Torn.{IsTorn}
use Rattle.collective_round.specs.Rounds.{as_setting, counted}
use Rattle.turn_run.specs.Known.{Contents}
use Rattle.turn_run.specs.declared.runners.Runner.{Runner}

abbrev pub runner_end : RankStop → Runner → RankEnd
runner_end why runner =
    record { answers = runner.answers; known = runner.rank.state.known; pending = machine.pending runner.rank.state; end = why }

abbrev pub NoneBroke : List RankEnd → Type 0
NoneBroke ends = (r : ℕ) (end : RankEnd) → slice_get ends r ≡ Some end → end.end ≡ stop.Memory → ⊥

abbrev pub most_known_of : List RankEnd → ℕ
most_known_of ends = greatest (map (λ end. end.known) ends)

-- the count of a file was raised to what the ranks knew
pub record HasClosed (header : Header) (known : ℕ) (old new : Contents) (calls made : Option (List DiskCall)) : Type 0 where
  pub bytes : new.held ≡ after (λ file. (raised (as_setting header) (counted file old.records) known).file) old.held
  pub count : new.records ≡ max old.records known
  pub device : made ≡ with_end calls (store_records (as_setting header) (nat_lt old.records new.records))

-- How a run ended with a fault: before the close, or in it, which may also have been done.
pub data EndedAt (header : Header) (ends : List RankEnd) (before : Option StepErr) (cause : StepErr) (old new : Contents) : Type 0 where
  as_left : (before ≡ Some cause) ⊎ (cause ≡ fault.Memory) → new.held ≡ old.held → new.records ≡ old.records → EndedAt header ends before cause old new
  in_close : before ≡ None → NoneBroke ends
      → BothTold (λ file now. IsTorn [] (byte_len (count_width header.version)) file (raised (as_setting header) (counted file old.records) (most_known_of ends)).file now) old.held new.held
      → (new.records ≡ old.records) ⊎ (new.records ≡ max old.records (most_known_of ends)) → EndedAt header ends before cause old new
