use Rattle.rank_core.proofs.Words.{Waiting, arith, nat_tests}
use Rattle.rank_core.proofs.StepLaws.{requests_kept, id_is}
use Rattle.rank_core.proofs.rank.Rank.keep.Goals as goal

pub post_parts-requires-clause-fresh : goal.post_parts-requires-clause-fresh
post_parts-requires-clause-fresh c = grind (arith, nat_tests, id_is c.args.id c.args.asked c.requires.some c.requires.ids, c.requires.fresh)

pub invariant_of-self : goal.invariant_of-self
invariant_of-self c =
    let a = c.self.inside in
    grind (arith, nat_tests, id_is c.args.id c.args.asked c.requires.some c.requires.ids, requests_kept c.post_parts.result a.header.now a.known c.args.id (Waiting c.args.kind c.args.asked) a.queue, c.requires.fresh, c.requires.posts, c.self.invariant.sound, c.self.invariant.names, c.self.invariant.requests, c.post_parts.ensures.ok, c.post_parts.ensures.err, c.self.invariant.offered)

pub returns-clause-ok : goal.returns-clause-ok
returns-clause-ok c = grind (arith, nat_tests, id_is c.args.id c.args.asked c.requires.some c.requires.ids, c.post_parts.ensures.ok)
