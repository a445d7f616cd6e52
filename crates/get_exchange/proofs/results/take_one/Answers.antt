-- What was taken are the first of what the helper put.
use Rattle.get_exchange.proofs.Words.{part_state, rules, arith, common_steps}
use Rattle.get_exchange.proofs.FetchLaws.{joined_fetched, taken_read}
use Rattle.get_exchange.proofs.results.take_one.Goals as goal

pub returns : goal.returns
returns g c =
    let worker = c.args.worker in
    let back = c.take-ends.result in
    let state = part_state g.D.Disk in
    record {
      got = (joined_fetched _ _ _ _ _ _ c.requires c.take-ends.ensures.fetched).got;
      failed = first_of (search rules, grind (arith, common_steps));
      read = taken_read _ _ _ _ worker.shelf.line.items _ (joined_fetched _ _ _ _ _ _ c.requires c.take-ends.ensures.fetched) c.settle.ensures.prefix c.settle.ensures.equal;
    }
