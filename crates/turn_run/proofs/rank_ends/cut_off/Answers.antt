-- The answers are kept, or there was no memory for them.
use Rattle.turn_run.proofs.Words.{sym, ◌∙◌, inl, inr}
use Rattle.nc_base.specs.declared.step.StepErr.TheVariants as fault
use Rattle.turn_run.proofs.CutEnds.{not_disk, same_cause}
use Rattle.turn_run.proofs.rank_ends.cut_off.Goals as goal

pub returns-in-Ok-clause-disk : goal.returns-in-Ok-clause-disk
returns-in-Ok-clause-disk c = λ e. (same_cause c.args.cause fault.Disk e, c.in-Ok.ensures)

pub returns-in-Err-clause-disk : goal.returns-in-Err-clause-disk
returns-in-Err-clause-disk c = λ e. absurd (not_disk (sym c.stopped.ensures.fault ∙ e))

pub returns-in-Ok-clause-fault : goal.returns-in-Ok-clause-fault
returns-in-Ok-clause-fault c = λ e h. inl (sym (same_cause c.args.cause e h))

pub returns-in-Ok-clause-rows : goal.returns-in-Ok-clause-rows
returns-in-Ok-clause-rows c = inl c.in-Ok.ensures

pub returns-in-Err-clause-fault : goal.returns-in-Err-clause-fault
returns-in-Err-clause-fault c = λ e h. inr (sym (same_cause fault.Memory e (sym c.stopped.ensures.fault ∙ h)))

pub returns-in-Err-clause-rows : goal.returns-in-Err-clause-rows
returns-in-Err-clause-rows c = inr c.stopped.ensures.answers
