use Rattle.dataset_start.proofs.Words.{ap, inl, subst, sym, ◌∙◌, IsOfOpening, status_of, on_err, on_err_weaker, both_ways}
use Rattle.dataset_start.proofs.NotReady.{lengthen_refused, redefine_refused}
use Rattle.dataset_start.proofs.ReadyLaws.{bad-header, bad-redefinition, no_extras, ready-kept, redefined-ready, redefined_long, some_extras}
use Rattle.dataset_start.proofs.Untold.{disk-untold, of_disk, redefinition-leaves}
use Rattle.dataset_start.proofs.existing.open.Goals as goal

pub returns-in_err-old-clause-bad : goal.returns-in_err-old-clause-bad
returns-in_err-old-clause-bad g c =
    bad-header c.args.script.now (g.D.Disk.held c.args.disk.now) c.read_header.result c.in_err-old.field-0.0 c.from_residual.result c.requires.opened
    c.in_err-old.was c.read_header.ensures.header c.read_header.ensures.only c.from_residual.ensures.1

pub returns-in-Ok-clause-ready : goal.returns-in-Ok-clause-ready
returns-in-Ok-clause-ready g c =
    ready-kept c.args.script.now c.in_ok-old.old (g.D.Disk.held c.args.disk.now) (g.D.Disk.held c.read_header.new.disk) _ _ (g.D.Disk.calls c.read_header.new.disk) _
    c.requires.opened (no_extras c.args.script.now (c.is_empty.ensures.0 c.if-is_empty.true))
    c.in_ok-old.ensures.opened c.in_ok-old.ensures.sound c.in_ok-old.ensures.faultless c.in_ok-old.ensures.held
    c.in-Ok.ensures.bytes c.in_ok-old.ensures.calls c.in-Ok.ensures.calls

pub returns-else-is_empty-clause-ready : goal.returns-else-is_empty-clause-ready
returns-else-is_empty-clause-ready g c =
    redefined-ready c.args.script.now c.in_ok-old.old (g.D.Disk.held c.args.disk.now) (g.D.Disk.held c.read_header.new.disk) _ _ (g.D.Disk.calls c.read_header.new.disk) _ c.redefine-new.result c.requires.opened
    (some_extras c.args.script.now (λ none. both_ways _ c.if-is_empty.false (c.is_empty.ensures.1 none))) c.in_ok-old.ensures.opened c.in_ok-old.ensures.faultless c.in_ok-old.ensures.held c.redefine-new.ensures.applied c.redefine-new.ensures.bytes
    c.in_ok-old.ensures.calls c.redefine-new.ensures.calls

pub returns-else-is_empty-clause-len : goal.returns-else-is_empty-clause-len
returns-else-is_empty-clause-len g c =
    redefined_long c.in_ok-old.old (g.D.Disk.len c.redefine-new.new.disk) c.args.script.now.extra c.redefine-new.result c.redefine-new.ensures.applied c.redefine-new.ensures.len

pub returns-else-is_empty-clause-bad : goal.returns-else-is_empty-clause-bad
returns-else-is_empty-clause-bad g c =
    bad-redefinition c.args.script.now c.in_ok-old.old (g.D.Disk.held c.args.disk.now) c.redefine-new.result c.requires.opened
    (some_extras c.args.script.now (λ none. both_ways _ c.if-is_empty.false (c.is_empty.ensures.1 none))) c.in_ok-old.ensures.opened c.redefine-new.ensures.refused c.redefine-new.ensures.only

pub returns-in-Err-clause-bad : goal.returns-in-Err-clause-bad
returns-in-Err-clause-bad g c = λ s. absurd (disk-untold c.in-Err.fault (ap status_of (sym c.from.ensures) ∙ s))

pub returns-in-Err-clause-unchanged : goal.returns-in-Err-clause-unchanged
returns-in-Err-clause-unchanged g c = λ s. absurd (disk-untold c.in-Err.fault (ap status_of (sym c.from.ensures) ∙ s))

pub returns-in-Err-clause-only : goal.returns-in-Err-clause-only
returns-in-Err-clause-only g c = subst IsOfOpening (sym c.from.ensures) (of_disk c.in-Err.fault).1

pub returns-else-is_empty-clause-unchanged : goal.returns-else-is_empty-clause-unchanged
returns-else-is_empty-clause-unchanged g c =
    redefinition-leaves c.redefine-new.result (λ e x. ap g.D.Disk.held (c.redefine-new.ensures.unchanged e x) ∙ c.in_ok-old.ensures.held) c.redefine-new.ensures.only

-- ---- where it was not made ready

pub returns-in_err-old-clause-refused : goal.returns-in_err-old-clause-refused
returns-in_err-old-clause-refused g c = on_err c.from_residual.result (inl c.in_err-old.ensures.held)

pub returns-in-Err-clause-refused : goal.returns-in-Err-clause-refused
returns-in-Err-clause-refused g c =
    lengthen_refused c.args.script.now c.in_ok-old.old (g.D.Disk.held c.args.disk.now) (g.D.Disk.held c.read_header.new.disk) (g.D.Disk.held c.lengthen.new.disk) c.requires.opened
    (no_extras c.args.script.now (c.is_empty.ensures.0 c.if-is_empty.true)) c.in_ok-old.ensures.opened c.in_ok-old.ensures.faultless c.in_ok-old.ensures.held
    c.in-Err.ensures.lengthened

pub returns-else-is_empty-clause-refused : goal.returns-else-is_empty-clause-refused
returns-else-is_empty-clause-refused g c =
    on_err_weaker c.redefine-new.result
    (redefine_refused c.args.script.now c.in_ok-old.old (g.D.Disk.held c.args.disk.now) (g.D.Disk.held c.read_header.new.disk) (g.D.Disk.held c.redefine-new.new.disk) c.requires.opened
    (some_extras c.args.script.now (λ none. both_ways _ c.if-is_empty.false (c.is_empty.ensures.1 none))) c.in_ok-old.ensures.opened c.in_ok-old.ensures.faultless
    c.in_ok-old.ensures.held)
    c.redefine-new.ensures.torn
