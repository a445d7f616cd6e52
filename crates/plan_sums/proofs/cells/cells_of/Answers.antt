-- The cells of one rank more.
use Rattle.plan_sums.proofs.Words.{◌∙◌}
use Rattle.plan_sums.proofs.CellLaws.{rank_more}
use Rattle.plan_sums.proofs.cells.cells_of.Goals as goal

pub loop-rank-preserved : goal.loop-rank-preserved
loop-rank-preserved c =
    rank_more c.args.steps.now c.loop-rank.rank c.args.nodes c.deref.result.now c.loop-rank.cells.items c.push_rank.new.cells.items (c.deref.ensures.value ∙ c.in_ok-served.ensures)
    c.loop-rank.invariant c.in_ok-push_rank.ensures
