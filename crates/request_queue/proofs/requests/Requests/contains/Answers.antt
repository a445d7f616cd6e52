use Rattle.request_queue.proofs.Words.{arith, nat_tests}
use Rattle.request_queue.proofs.IndexLaws.{index_has}
use Rattle.request_queue.proofs.requests.Requests.contains.Goals as goal

pub returns : goal.returns
returns c = grind (arith, nat_tests, index_has, c.contains_key.ensures)
