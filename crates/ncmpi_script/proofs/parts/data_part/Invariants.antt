use Rattle.ncmpi_script.proofs.Words.{◌≡◌, length, significant_of, data_part}
use Rattle.ncmpi_script.proofs.parts.data_part.Given as goal

abbrev pub invariant-loop-line : goal.invariant-loop-line
invariant-loop-line l = data_part l.past l.table (significant_of l.lines) ≡ data_part l.fn.past l.fn.table (significant_of l.fn.lines)

abbrev pub decreases-loop-line : goal.decreases-loop-line
decreases-loop-line l = length (significant_of l.lines)
