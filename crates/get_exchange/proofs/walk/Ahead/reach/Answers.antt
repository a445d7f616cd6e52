-- Those that are left out end by the domain.
use Rattle.get_exchange.proofs.Words.{dropped_past, past_extents, past_twice, arith, nat_tests}
use Rattle.get_exchange.proofs.walk.Ahead.reach.Goals as goal

pub ends_by-requires : goal.ends_by-requires
ends_by-requires c = λ e m. c.requires.plan.ends e (past_extents c.from.result.place c.args.plan.now.list.now c.from.result.entries.now e c.from.ensures.past m)

pub returns : goal.returns
returns c = grind (arith, nat_tests, past_twice, dropped_past, c.from.ensures.low, c.from.ensures.past, c.split_at.ensures.back)
