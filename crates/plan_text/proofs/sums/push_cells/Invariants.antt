use Rattle.plan_text.proofs.Cited.{◌≡◌, ◌++◌, take, flat_map, cell_line}
use Rattle.plan_text.proofs.sums.push_cells.Given as goal

abbrev pub invariant-loop-cell : goal.invariant-loop-cell
invariant-loop-cell l = l.out.items ≡ l.initial.out.items ++ flat_map cell_line (take l.cell-index l.cells)
