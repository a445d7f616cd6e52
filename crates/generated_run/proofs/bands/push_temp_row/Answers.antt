use Rattle.generated_run.proofs.Words.{◌≡◌, List, arith, ℕ, subst, OnOk, bits_of_runs}
use Rattle.generated_run.proofs.TurnLaws.{temp_row_pushed}
use Rattle.generated_run.proofs.bands.push_temp_row.Goals as goal

pub returns : goal.returns
returns c =
    let first = c.first_of-first in
    let whole =
    temp_row_pushed (bits_of_runs c.args.out.now.items) (bits_of_runs c.push_temps.new.out.items) c.args.seed c.args.time c.args.row first.result c.min-count.result
    (omega (arith, first.ensures.value, c.from.ensures, c.from-2.ensures)) c.min-count.ensures c.in_ok-push_temps.ensures in
    subst (λ (now : List ℕ). OnOk c.push_temps-2.result (bits_of_runs c.push_temps-2.new.out.items ≡ now)) whole c.push_temps-2.ensures
