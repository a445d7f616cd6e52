use Rattle.request_queue.proofs.Words.{[], nat_cmp, contains, has_waiting, arith, nat_tests}
use Rattle.request_queue.proofs.TakeLaws.{items_is}
use Rattle.request_queue.proofs.queue.Queue.items.Goals as goal

pub returns : goal.returns
returns c =
    let a = c.self.inside in
    grind (arith, nat_tests, items_is a.history.items a.waiting (contains nat_cmp a.nulls) (has_waiting a.waiting) [] c.args.ids.now, c.self.invariant.waiting, c.self.invariant.nulls, c.list_items.ensures)
