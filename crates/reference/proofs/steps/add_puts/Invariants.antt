-- The puts so far.
use Rattle.reference.proofs.Words.{◌≡◌, ◌++◌, map, take}
use Rattle.reference.proofs.steps.add_puts.Given as goal

abbrev pub invariant-loop-post : goal.invariant-loop-post
invariant-loop-post l = l.puts.items ≡ l.initial.puts.items ++ map (λ post. (l.rank, post)) (take l.post-index l.offer.batch.puts)
