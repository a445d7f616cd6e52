use Rattle.dataset_start.proofs.Keeping.{read_kept}
use Rattle.dataset_start.proofs.Words.{inl, refl, on_err, arith, nat_tests}
use Rattle.dataset_start.proofs.NotReady.{left_unready}
use Rattle.dataset_start.proofs.ReadyLaws.{bad-dataset, laid-mislaid, of_bad_layout}
use Rattle.dataset_start.proofs.Untold.{late}
use Rattle.dataset_start.proofs.start.begin.Goals as goal

pub make_ready-requires-clause-kept : goal.make_ready-requires-clause-kept
make_ready-requires-clause-kept g c = λ _ _. read_kept c.in_ok-script.ensures.read.0 c.in_ok-script.script c.in_ok-script.ensures.read.1

-- ---- where the dataset was not made ready

pub returns-in-Err-clause-bad : goal.returns-in-Err-clause-bad
returns-in-Err-clause-bad g c = grind (arith, nat_tests, bad-dataset, c.in_ok-script.ensures.asks, c.in-Err.ensures.unlaid, c.in-Err.ensures.bad)

pub returns-in-Err-clause-unlaid : goal.returns-in-Err-clause-unlaid
returns-in-Err-clause-unlaid g c =
    of_bad_layout (g.S.Source.left c.args.source.now) c.in_ok-script.script c.in_ok-script.ensures.asks c.in-Err.ensures.unlaid

pub returns-in_err-script-clause-torn : goal.returns-in_err-script-clause-torn
returns-in_err-script-clause-torn g c = on_err c.from_residual.result (inl refl)

pub returns-in-Err-clause-torn : goal.returns-in-Err-clause-torn
returns-in-Err-clause-torn g c = grind (arith, nat_tests, left_unready, c.in_ok-script.ensures.asks, c.in-Err.ensures.refused)

pub returns-in-Err-clause-asked : goal.returns-in-Err-clause-asked
returns-in-Err-clause-asked g c = λ s. (c.in_ok-script.script, (c.in_ok-script.ensures.asks, c.in-Err.ensures.laid s))

pub returns-in-Err-clause-not_started : goal.returns-in-Err-clause-not_started
returns-in-Err-clause-not_started g c = λ s. absurd (late c.in-Err.stop c.in-Err.ensures.only s)

-- ---- where it was

pub returns-in-Ok-clause-unlaid : goal.returns-in-Ok-clause-unlaid
returns-in-Ok-clause-unlaid g c =
    of_bad_layout (g.S.Source.left c.args.source.now) c.in_ok-script.script c.in_ok-script.ensures.asks
    (laid-mislaid c.in_ok-script.script c.in-Ok.ensures.ready.faultless.created)
