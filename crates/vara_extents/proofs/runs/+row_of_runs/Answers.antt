-- The innermost dimension that takes a run for each of its indices.
use Rattle.vara_extents.proofs.Words.{arith}
use Rattle.vara_extents.proofs.RowLaws.{rows_here, rows_inside}
use Rattle.vara_extents.proofs.RowSteps.{inner_small}
use Rattle.vara_extents.proofs.runs.+row_of_runs.Goals as goal

pub returns-then-element_count-run : goal.returns-then-element_count-run
returns-then-element_count-run t c = λ weights l.
    let inner = inner_small c.args.counts.now 0 c.in-len1-up.len_at_least (omega (arith, c.requires.some)) c.requires.small in
    rows_here c.args.counts.now weights c.args.run c.in-len1-up.len_at_least c.requires.some c.requires.run (omega (arith, inner.1, c.element_count.ensures, c.if-element_count-run.true)) l

pub returns-else-element_count-run : goal.returns-else-element_count-run
returns-else-element_count-run t c = λ weights l.
    let inner = inner_small c.args.counts.now 0 c.in-len1-up.len_at_least (omega (arith, c.requires.some)) c.requires.small in
    rows_inside c.args.counts.now weights c.args.run c.row_of_runs.result c.in-len1-up.len_at_least inner.0 c.requires.run c.row_of_runs.ensures l
