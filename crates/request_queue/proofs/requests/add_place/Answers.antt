use Rattle.request_queue.proofs.Words.{arith, nat_tests}
use Rattle.request_queue.proofs.TakeLaws.{insert_is}
use Rattle.request_queue.proofs.requests.add_place.Goals as goal

pub returns-in_ok-insert-in-Some : goal.returns-in_ok-insert-in-Some
returns-in_ok-insert-in-Some c = grind (arith, nat_tests, insert_is, c.in_ok-insert-in-Some.ensures.updates.0, c.in-Some.is)
