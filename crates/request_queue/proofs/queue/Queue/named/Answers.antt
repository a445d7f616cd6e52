use Rattle.request_queue.proofs.Words.{named, arith, nat_tests, map_map}
use Rattle.request_queue.proofs.queue.Queue.named.Goals as goal

pub returns-in-Every : goal.returns-in-Every
returns-in-Every c = grind (arith, nat_tests, map_map, named, c.self.invariant.waiting, c.in-Every.is, c.ids.ensures)
