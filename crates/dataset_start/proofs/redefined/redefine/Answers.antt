use Rattle.dataset_start.proofs.Keeping.{kept_extras, kept_whole_extras, kept_wr_buffer}
use Rattle.dataset_start.proofs.NotReady.{not_redefined, relocate_refused}
use Rattle.dataset_start.proofs.Untold.{of_disk}
use Rattle.dataset_start.proofs.redefined.redefine.Goals as goal
use Rattle.dataset_start.proofs.Words.{subst, sym, IsOfRedefinition, on_err}

pub apply-requires-clause-lawful : goal.apply-requires-clause-lawful
apply-requires-clause-lawful g c = kept_extras c.args.script.now c.requires.kept

pub apply-requires-clause-whole : goal.apply-requires-clause-whole
apply-requires-clause-whole g c = kept_whole_extras c.args.script.now c.requires.kept

pub relocate-requires-clause-size : goal.relocate-requires-clause-size
relocate-requires-clause-size g c = λ _ _. kept_wr_buffer c.args.script.now c.requires.kept

pub returns-in_err-new-clause-torn : goal.returns-in_err-new-clause-torn
returns-in_err-new-clause-torn g c = on_err c.from_residual.result (not_redefined c.args.old.now c.args.script.now.extra (g.D.Disk.held c.args.disk.now))

pub returns-in-Err-clause-torn : goal.returns-in-Err-clause-torn
returns-in-Err-clause-torn g c =
    relocate_refused c.args.old.now c.in_ok-new.new c.args.script.now.extra (g.D.Disk.held c.args.disk.now) (g.D.Disk.held c.relocate.new.disk) c.in_ok-new.ensures.applied
    c.in-Err.ensures.refused c.in-Err.ensures.stays

pub returns-in-Err-clause-only : goal.returns-in-Err-clause-only
returns-in-Err-clause-only g c = subst IsOfRedefinition (sym c.from.ensures) (of_disk c.in-Err.fault).0
