-- No entry that the windows want is gone.
use Rattle.get_exchange.proofs.Words.{arith, all_left, domain_turns, at_begin, nat_tests}
use Rattle.get_exchange.proofs.FetchLaws.{get_on}
use Rattle.get_exchange.proofs.walk.ReadWalk.new.Goals as goal

pub returns-clause-at : goal.returns-clause-at
returns-clause-at c =
    let plan = c.args.plan.now in
    let list = plan.list.now in
    let size = plan.hints.now.cb_buffer in
    let given = c.requires.plan in
    let domain = c.args.reader.now.aggregator.domain in
    grind (arith, nat_tests, all_left, get_on list plan.cover.now size domain.at domain.len domain given, at_begin list, domain_turns size domain list plan.cover.now given.some given.covers given.cover_bytes)
