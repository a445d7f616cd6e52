-- The first window is the walk's next.
use Rattle.get_exchange.proofs.Words.{arith, nat_tests}
use Rattle.get_exchange.proofs.ShelfLaws.{due_next, shelf_first}
use Rattle.get_exchange.proofs.shelf.shelf_of.Goals as goal

pub returns-clause-ready : goal.returns-clause-ready
returns-clause-ready c = grind (arith, nat_tests, shelf_first, c.new-walk.ensures.at, c.next_window-next.ensures.ready, c.next_window-next.ensures.some)

pub returns-clause-due : goal.returns-clause-due
returns-clause-due c = grind (arith, nat_tests, due_next, c.next_window-next.ensures.none, c.next_window-next.ensures.some, c.new-walk.ensures.windows)
