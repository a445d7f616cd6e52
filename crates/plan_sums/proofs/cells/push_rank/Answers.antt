-- The cell of one aggregator more.
use Rattle.plan_sums.proofs.Words.{◌++◌, ◌∙◌, ap, some_cell, cell_of, Cell, Served}
use Rattle.plan_sums.proofs.ListLaws.{flat_added}
use Rattle.plan_sums.proofs.cells.push_rank.Goals as goal

pub loop-served-preserved : goal.loop-served-preserved
loop-served-preserved c =
    flat_added (λ (served : Served). some_cell (cell_of c.args.rank served)) c.args.all.now c.loop-served.served-index c.served-item.result c.args.cells.now.items c.loop-served.cells.items
    c.push_cell.new.cells.items c.loop-served-test.true c.served-item.is c.loop-served.invariant
    (c.in_ok-push_cell.ensures ∙ ap (λ (one : Cell). c.loop-served.cells.items ++ some_cell one) c.cell_of.ensures)
