use Rattle.ncmpi_script.proofs.Words.{◌≡◌, length, significant_of, definitions}
use Rattle.ncmpi_script.proofs.parts.definitions.Given as goal

abbrev pub invariant-loop-line : goal.invariant-loop-line
invariant-loop-line l = definitions l.past l.version l.draft (significant_of l.lines) ≡ definitions l.fn.past l.fn.version l.fn.draft (significant_of l.fn.lines)

abbrev pub decreases-loop-line : goal.decreases-loop-line
decreases-loop-line l = length (significant_of l.lines)
