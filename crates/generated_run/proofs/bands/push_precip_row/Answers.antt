use Rattle.generated_run.proofs.Words.{◌≡◌, List, arith, subst, ℤ, OnOk, numbers_of_runs}
use Rattle.generated_run.proofs.TurnLaws.{precip_row_pushed}
use Rattle.generated_run.proofs.bands.push_precip_row.Goals as goal

pub returns : goal.returns
returns c =
    let first = c.first_of-first in
    let whole =
    precip_row_pushed (numbers_of_runs c.args.out.now.items) (numbers_of_runs c.push_depths.new.out.items) c.args.seed c.args.time c.args.row first.result c.min-count.result
    (omega (arith, first.ensures.value, c.from.ensures, c.from-2.ensures)) c.min-count.ensures c.in_ok-push_depths.ensures in
    subst (λ (now : List ℤ). OnOk c.push_depths-2.result (numbers_of_runs c.push_depths-2.new.out.items ≡ now)) whole c.push_depths-2.ensures
