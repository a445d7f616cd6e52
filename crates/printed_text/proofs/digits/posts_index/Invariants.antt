use Rattle.printed_text.proofs.Cited.{drop, FindsPosts}
use Rattle.printed_text.proofs.digits.posts_index.Given as goal

abbrev pub invariant-loop-k : goal.invariant-loop-k
invariant-loop-k l = FindsPosts l.names (drop l.k l.calls) l.index
