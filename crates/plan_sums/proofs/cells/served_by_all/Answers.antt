-- What one aggregator more serves.
use Rattle.plan_sums.proofs.CellLaws.{served_more}
use Rattle.plan_sums.proofs.cells.served_by_all.Goals as goal

pub loop-aggregator-preserved : goal.loop-aggregator-preserved
loop-aggregator-preserved c =
    served_more c.args.steps.now c.loop-aggregator.aggregator c.in_ok-puts.puts c.in_ok-gets.gets c.loop-aggregator.all.items c.push.new.self.items c.in_ok-puts.ensures c.in_ok-gets.ensures
    c.loop-aggregator.invariant c.in_ok-push.ensures.items
