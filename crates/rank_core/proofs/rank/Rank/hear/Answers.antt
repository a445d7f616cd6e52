use Rattle.rank_core.proofs.Words.{arith, zip, get, nat_cmp, state_of, nat_tests}
use Rattle.serial_spec.specs.RankMachine as machine
use Rattle.rank_core.proofs.HeardLaws.{heard_as}
use Rattle.rank_core.proofs.RequestLaws.{requests_more}
use Rattle.rank_core.proofs.rank.Rank.hear.Goals as goal

pub invariant_of-self-2 : goal.invariant_of-self-2
invariant_of-self-2 c =
    grind (arith, nat_tests, requests_more, c.max-self-inside.ensures, c.self.invariant.sound, c.self.invariant.names, c.self.invariant.requests, c.take.ensures.after)

pub returns-clause-hear : goal.returns-clause-hear
returns-clause-hear c =
    let a = c.self.inside in
    grind (arith, nat_tests, zip, heard_as a.header.now (state_of a) c.args.reply c.unwrap-offer.result (get nat_cmp c.in_ok-found.found), c.in_ok-found.ensures, c.as_slice.ensures, c.as_slice-2.ensures, c.max-self-inside.ensures, c.take.ensures.after, c.unwrap-offer.ensures, c.take.ensures.value, c.answer_to.ensures)
