-- The holders among the last holdings.
use Rattle.reference.proofs.Words.{◌≡◌, ◌-◌, drop, length, holders}
use Rattle.reference.proofs.pairs.holders.Given as goal

abbrev pub invariant-loop-k : goal.invariant-loop-k
invariant-loop-k l = l.keys.items ≡ holders (drop (length l.held - l.k) l.held) l.at
