use Rattle.ncmpi_script.proofs.Words.{◌≡◌, ◌+◌, length, text_lines}
use Rattle.ncmpi_script.proofs.top.count_lines.Given as goal

abbrev pub invariant-loop-count : goal.invariant-loop-count
invariant-loop-count l = l.count + length l.lines ≡ length (text_lines l.text)

abbrev pub decreases-loop-count : goal.decreases-loop-count
decreases-loop-count l = length l.lines
