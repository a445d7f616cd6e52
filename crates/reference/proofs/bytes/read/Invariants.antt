-- The bytes so far.
use Rattle.reference.proofs.Words.{◌≡◌, ◌++◌, read}
use Rattle.reference.proofs.bytes.read.Given as goal

abbrev pub invariant-loop-k : goal.invariant-loop-k
invariant-loop-k l = l.into.items ≡ l.initial.into.items ++ read l.file l.at l.k
