use Rattle.generated_run.proofs.Words.{◌≡◌, ◌+◌, ◌-◌, List, [], ℕ, subst, ◌∙◌, arith, IfOk, bits_of_runs, first_row, temp_row}
use Rattle.generated_run.proofs.BandLaws.{temp_rows}
use Rattle.generated_run.proofs.Ranges.{all_pieces, next_piece}
use Rattle.generated_run.proofs.bands.temp_band.Goals as goal

pub loop-row-preserved : goal.loop-row-preserved
loop-row-preserved c =
    let a = c.first_row-first.result in
    let row = c.loop-row.row in
    next_piece (λ y. temp_row c.args.seed c.args.time y) [] (bits_of_runs c.loop-row.runs.items) (bits_of_runs c.push_temp_row.new.out.items) a (row - a) (row + 1 - a) row (omega arith) (omega arith)
    c.loop-row.invariant c.in_ok-push_temp_row.ensures

pub returns : goal.returns
returns c =
    let a = c.first_row-first.result in
    let row = c.loop-row.row in
    let all =
    all_pieces (λ y. temp_row c.args.seed c.args.time y) [] (bits_of_runs c.loop-row.runs.items) a (first_row c.args.rank) (row - a) (first_row (c.args.rank + 1) - first_row c.args.rank)
    c.first_row-first.ensures.value (omega arith) c.loop-row.invariant
    ∙ temp_rows c.args.seed c.args.rank c.args.time in
    subst (λ (now : List ℕ). IfOk c.from_runs.result (λ values. values ≡ now)) all c.from_runs.ensures
