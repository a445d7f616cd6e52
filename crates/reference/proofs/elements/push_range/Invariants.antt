-- The numbers so far.
use Rattle.reference.proofs.Words.{◌≡◌, ◌++◌, range_with_len}
use Rattle.reference.proofs.elements.push_range.Given as goal

abbrev pub invariant-loop-k : goal.invariant-loop-k
invariant-loop-k l = l.list.items ≡ l.initial.list.items ++ range_with_len l.at l.k
