use Rattle.printed_text.proofs.Cited.{drop, FindsNames}
use Rattle.printed_text.proofs.digits.names_index.Given as goal

abbrev pub invariant-loop-k : goal.invariant-loop-k
invariant-loop-k l = FindsNames (drop l.k l.vars) l.index
