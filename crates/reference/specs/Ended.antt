-- What a run came to, as the end of the serial run. (own)
--     as_end end                the same as the record of serial_spec
--     most_known runners          the greatest record count that a rank knows
--     AreLow header runners       each rank knows a count that the header can have
use Rattle.std.specs.Prelude.{◌≡◌, ℕ, ◌<◌, List, map, Some, slice_get}
use Rattle.nc_base.specs.declared.header.Header.{Header}
use Rattle.serial_spec.specs.Layout.{greatest}
use Rattle.serial_spec.specs.Limits.{record_limit}
use Rattle.serial_spec.specs.SerialEnd.{End}
use Rattle.reference.specs.declared.end.SerialEnd.{SerialEnd}
use Rattle.reference.specs.declared.runners.Runner.{Runner}

abbrev pub as_end : SerialEnd → End
as_end end = record { bytes = end.bytes; records = end.records; answers = end.answers; pending = end.pending }

abbrev pub most_known : List Runner → ℕ
most_known runners = greatest (map (λ runner. runner.rank.state.known) runners)

abbrev pub AreLow : Header → List Runner → Type 0
AreLow header runners = (r : ℕ) (runner : Runner) → slice_get runners r ≡ Some runner → runner.rank.state.known < record_limit header.version
