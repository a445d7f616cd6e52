-- The puts so far, and those of the ranks that are left.
use Rattle.reference.proofs.Words.{◌≡◌, ◌++◌, drop, flat_map, enumerate_from, puts_of}
use Rattle.reference.proofs.steps.puts_of.Given as goal

abbrev pub invariant-loop-rank : goal.invariant-loop-rank
invariant-loop-rank l = l.puts.items ++ flat_map puts_of (enumerate_from l.rank (drop l.rank l.offers)) ≡ flat_map puts_of (enumerate_from 0 l.offers)
