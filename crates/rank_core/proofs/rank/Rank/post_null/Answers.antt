use Rattle.rank_core.proofs.Words.{arith, nat_tests}
use Rattle.rank_core.proofs.RequestLaws.{requests_push}
use Rattle.rank_core.proofs.rank.Rank.post_null.Goals as goal

pub invariant_of-self-2 : goal.invariant_of-self-2
invariant_of-self-2 c =
    let a = c.self.inside in
    grind (arith, nat_tests, requests_push, c.requires.fresh, c.self.invariant.sound, c.self.invariant.names, c.in_ok-post_null.ensures.ok, c.self.invariant.requests, c.self.invariant.offered)
