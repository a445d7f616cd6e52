use Rattle.script_words.proofs.Cited.{◌≡◌, length, significant_of}
use Rattle.script_words.proofs.lines.significant_line.Given as goal

abbrev pub invariant-loop-number : goal.invariant-loop-number
invariant-loop-number l = significant_of l.lines ≡ significant_of l.fn.lines

abbrev pub decreases-loop-number : goal.decreases-loop-number
decreases-loop-number l = length l.lines
