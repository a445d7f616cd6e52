-- Of those so far.
use Rattle.exchange_crew.proofs.LeastRounds.{IsLeast}
use Rattle.exchange_crew.proofs.rounds.first_in_turn.Given as goal

abbrev pub invariant-loop-k : goal.invariant-loop-k
invariant-loop-k g l = IsLeast g.T.InRounds.next l.all l.k l.first l.least
