-- What the puts so far hold.
use Rattle.reference.proofs.Words.{◌≡◌, take, holdings}
use Rattle.reference.proofs.pairs.holdings.Given as goal

abbrev pub invariant-loop-put : goal.invariant-loop-put
invariant-loop-put l = l.held.items ≡ holdings l.header (take l.put-index l.puts)
