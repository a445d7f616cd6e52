use Rattle.printed_text.proofs.Cited.{◌≡◌, ◌++◌, map, take, mark_word, spaced}
use Rattle.printed_text.proofs.runs.push_marks.Given as goal

abbrev pub invariant-loop-mark : goal.invariant-loop-mark
invariant-loop-mark l = l.out.items ≡ l.initial.out.items ++ spaced (map mark_word (take l.mark-index l.order))
