use Rattle.rank_core.proofs.Words.{is_chosen, named, rank_with, arith, nat_tests}
use Rattle.rank_core.proofs.RequestLaws.{puts_taken, gets_taken}
use Rattle.rank_core.proofs.StepLaws.{requests_after}
use Rattle.rank_core.proofs.rank.Rank.take.Goals as goal

pub invariant_of-self : goal.invariant_of-self
invariant_of-self c = record {
  sound = c.self.invariant.sound;
  names = c.self.invariant.names;
  requests = grind (arith, nat_tests, requests_after, c.self.invariant.requests, c.take.ensures.after, c.take.ensures.err);
  offered = c.self.invariant.offered;
}

pub returns-clause-puts : goal.returns-clause-puts
returns-clause-puts c =
    let a = c.self.inside in
    grind (arith, nat_tests, puts_taken a.header.now a.known (is_chosen (named (rank_with a.queue) c.args.choice.now)) a.queue.posted, named (rank_with a.queue) c.args.choice.now, c.self.invariant.requests, c.take.ensures.batch)

pub returns-clause-gets : goal.returns-clause-gets
returns-clause-gets c =
    let a = c.self.inside in
    grind (arith, nat_tests, gets_taken a.header.now a.known (is_chosen (named (rank_with a.queue) c.args.choice.now)) a.queue.posted, named (rank_with a.queue) c.args.choice.now, c.self.invariant.requests, c.take.ensures.batch)
