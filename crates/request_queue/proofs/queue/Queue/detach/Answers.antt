use Rattle.request_queue.proofs.Words.{false, arith, nat_tests}
use Rattle.nc_base.specs.declared.answer.Code.TheVariants as code
use Rattle.request_queue.proofs.AccountLaws.{detach_is}
use Rattle.request_queue.proofs.queue.Queue.detach.Goals as goal

pub returns-then-self-gt0-clause-refused : goal.returns-then-self-gt0-clause-refused
returns-then-self-gt0-clause-refused c =
    grind (arith, nat_tests, detach_is, c.self.invariant.waiting, c.is_none.ensures, c.if-is_none.false, c.self.invariant.buffered)

pub returns-clause-right : goal.returns-clause-right
returns-clause-right c = grind (arith, nat_tests, detach_is, c.self.invariant.waiting, c.is_none.ensures, c.if-is_none.false, c.self.invariant.buffered)
