-- No entry is gone.
use Rattle.get_exchange.proofs.Words.{sym, walk_begin}
use Rattle.get_exchange.proofs.walk.Ahead.new.Goals as goal

pub returns-clause-past : goal.returns-clause-past
returns-clause-past c = walk_begin c.args.plan.now.list.now c.as_slice.result.now (sym c.as_slice.ensures)
