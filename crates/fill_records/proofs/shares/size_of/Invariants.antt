-- The product of the counts so far.
use Rattle.fill_records.proofs.Words.{◌≡◌, take, product}
use Rattle.fill_records.proofs.shares.size_of.Given as goal

abbrev pub invariant-loop-count : goal.invariant-loop-count
invariant-loop-count l = l.size ≡ product (take l.count-index l.counts)
