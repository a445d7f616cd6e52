use Rattle.generated_run.proofs.Words.{◌≡◌, ◌+◌, ◌-◌, List, [], subst, ◌∙◌, arith, ℤ, IfOk, numbers_of_runs, first_row, precip_row}
use Rattle.generated_run.proofs.BandLaws.{precip_rows}
use Rattle.generated_run.proofs.Ranges.{all_pieces, next_piece}
use Rattle.generated_run.proofs.bands.precip_band.Goals as goal

pub loop-row-preserved : goal.loop-row-preserved
loop-row-preserved c =
    let a = c.first_row-first.result in
    let row = c.loop-row.row in
    next_piece (λ y. precip_row c.args.seed c.args.time y) [] (numbers_of_runs c.loop-row.runs.items) (numbers_of_runs c.push_precip_row.new.out.items) a (row - a) (row + 1 - a) row (omega arith) (omega arith)
    c.loop-row.invariant c.in_ok-push_precip_row.ensures

pub returns : goal.returns
returns c =
    let a = c.first_row-first.result in
    let row = c.loop-row.row in
    let all =
    all_pieces (λ y. precip_row c.args.seed c.args.time y) [] (numbers_of_runs c.loop-row.runs.items) a (first_row c.args.rank) (row - a) (first_row (c.args.rank + 1) - first_row c.args.rank)
    c.first_row-first.ensures.value (omega arith) c.loop-row.invariant
    ∙ precip_rows c.args.seed c.args.rank c.args.time in
    subst (λ (now : List ℤ). IfOk c.from_runs.result (λ values. values ≡ now)) all c.from_runs.ensures
