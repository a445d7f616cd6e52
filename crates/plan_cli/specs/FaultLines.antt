-- The lines that tell why there is no plan.
--     renamed line          a line of ncrun under the name of this program
--     usage_line            the line for words of no form
--     line_of stop          the line that tells a stop
--     fixed_line_of stop    the line of a stop that has always the same one
--     line_of_status status    the line of a status that has one line
use Rattle.std.specs.Prelude.{ℕ, ◌==◌, List, ◌++◌, drop, codes, Option, Some, None, option_map, if◌then◌else◌}
use Rattle.script_spec.specs.Texts.{disk_line, text_line}
use Rattle.dataset_start.specs.Stops as ncrun
use Rattle.dataset_start.specs.declared.stop.Stop.{Stop}
use Rattle.dataset_start.specs.declared.stop.Stop.TheVariants.{Usage, Disk}

-- ncplan stands in place of ncrun, the first five bytes
abbrev pub renamed : List ℕ → List ℕ
renamed line = codes "ncplan" ++ drop 5 line

abbrev pub usage_line : List ℕ
usage_line = text_line (codes "ncplan: usage: ncplan [--json] [DATASET] < SCRIPT")

abbrev pub line_of : Stop → Option (List ℕ)
line_of Usage = Some usage_line
line_of stop = option_map renamed (ncrun.line_of stop)

abbrev pub fixed_line_of : Stop → Option (List ℕ)
fixed_line_of Usage = Some usage_line
fixed_line_of Disk = Some (renamed disk_line)
fixed_line_of _ = None

abbrev pub line_of_status : ℕ → Option (List ℕ)
line_of_status status = if status == 2 then Some usage_line else (if status == 7 then Some (renamed disk_line) else None)
