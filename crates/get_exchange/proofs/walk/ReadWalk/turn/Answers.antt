-- Those carried, and those behind them that begin before the hull ends.
use Rattle.get_exchange.proofs.Words.{sorted_right, front_carried, arith, nat_tests}
use Rattle.get_exchange.proofs.walk.ReadWalk.turn.Goals as goal

pub ahead_before-requires : goal.ahead_before-requires
ahead_before-requires c = record { sorted = sorted_right c.args.self.now.entries.carried.items c.args.self.now.entries.ahead.now c.requires.sorted }

pub returns-clause-front : goal.returns-clause-front
returns-clause-front c = grind (arith, nat_tests, front_carried, c.as_slice.ensures.value, c.ahead_before.ensures)
