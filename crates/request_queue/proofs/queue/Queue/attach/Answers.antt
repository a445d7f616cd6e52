use Rattle.request_queue.proofs.Words.{not_some, arith, nat_tests}
use Rattle.request_queue.proofs.AccountLaws.{none_held, new_fits}
use Rattle.request_queue.proofs.queue.Queue.attach.Goals as goal

pub invariant_of-self : goal.invariant_of-self
invariant_of-self c =
    let a = c.self.inside in
    grind (arith, nat_tests, none_held, new_fits, not_some, c.self.invariant.room, c.in-Ok.ensures.right, c.self.invariant.nulls, c.self.invariant.waiting, c.in-Ok.ensures.ok, c.self.invariant.buffered)
