use Rattle.dataset_start.proofs.Words.{ap, inl, refl, subst, sym, ◌∙◌, IsOfDataset, status_of, on_err, both_ways}
use Rattle.dataset_start.proofs.ReadyLaws.{laid-mislaid}
use Rattle.dataset_start.proofs.Untold.{disk-untold, of_disk}
use Rattle.dataset_start.proofs.start.make_ready.Goals as goal

-- ---- where it was not made ready

pub returns-in_err-header-clause-refused : goal.returns-in_err-header-clause-refused
returns-in_err-header-clause-refused g c = on_err c.from_residual.result (inl refl)

pub returns-in-Err-clause-bad : goal.returns-in-Err-clause-bad
returns-in-Err-clause-bad g c = λ s. absurd (disk-untold c.in-Err.fault (ap status_of (sym c.from.ensures) ∙ s))

pub returns-in-Err-clause-unchanged : goal.returns-in-Err-clause-unchanged
returns-in-Err-clause-unchanged g c = λ s. absurd (disk-untold c.in-Err.fault (ap status_of (sym c.from.ensures) ∙ s))

pub returns-in-Err-clause-only : goal.returns-in-Err-clause-only
returns-in-Err-clause-only g c = subst IsOfDataset (sym c.from.ensures) (of_disk c.in-Err.fault).2

-- ---- a layout that is not refused

pub returns-in-Err-clause-unlaid : goal.returns-in-Err-clause-unlaid
returns-in-Err-clause-unlaid g c = laid-mislaid c.args.script.now (λ _. c.in_ok-header.ensures.faultless)

pub returns-in-Ok-clause-unlaid : goal.returns-in-Ok-clause-unlaid
returns-in-Ok-clause-unlaid g c = laid-mislaid c.args.script.now (λ _. c.in_ok-header.ensures.faultless)

pub returns-else-script-clause-unlaid : goal.returns-else-script-clause-unlaid
returns-else-script-clause-unlaid g c = laid-mislaid c.args.script.now (λ f. absurd (both_ways c.args.script.now.fresh c.if-script.false f))
