-- A owner at which nothing arrived.
use Rattle.file_owner.proofs.Words.{sym, ◌∙◌, subst, HasHalted, taken_from, stopped_with, dataset_setting, IsSteady, Standing, arith, nat_tests}
use Rattle.nc_base.specs.declared.step.StepErr.TheVariants as fault
use Rattle.file_owner.proofs.HaltLaws.{halt_none, opened_is, opening_steady}
use Rattle.file_owner.proofs.service.open_owner.Goals as goal

pub returns-in-Err-clause-halted : goal.returns-in-Err-clause-halted
returns-in-Err-clause-halted g c = grind (arith, nat_tests, halt_none, c.requires.ended, c.new-in-Err.ensures)

pub serve_all-halt-requires-clause-steady : goal.serve_all-halt-requires-clause-steady
serve_all-halt-requires-clause-steady g c κs within =
    subst (λ (x : Standing). IsSteady c.args.dataset.now.header.now (g.D.Disk.len c.args.out.now.disk.now) x)
    (sym (opened_is c.in-Ok.owner c.args.inbox.now.senders c.len.result c.args.out.now.records.now (g.D.Disk.held c.args.out.now.disk.now) (g.D.Disk.calls c.args.out.now.disk.now) (g.T.Told.heard c.args.out.now.told.now) c.args.out.now.back.now c.in-Ok.ensures.clients (c.len.ensures ∙ c.requires.lines) c.in-Ok.ensures.met c.in-Ok.ensures.reached c.in-Ok.ensures.order))
    (opening_steady c.args.dataset.now.header.now (g.D.Disk.len c.args.out.now.disk.now) c.args.inbox.now.senders c.args.out.now.records.now (g.D.Disk.held c.args.out.now.disk.now) (g.D.Disk.calls c.args.out.now.disk.now) (g.T.Told.heard c.args.out.now.told.now) c.args.out.now.back.now c.requires.few
    c.requires.lines c.requires.count)

pub returns-in-Ok-clause-halted : goal.returns-in-Ok-clause-halted
returns-in-Ok-clause-halted g c =
    rw c.into_order.ensures (subst (λ (x : Standing). HasHalted c.args.dataset.now.hints.now (dataset_setting c.args.dataset.now) (taken_from c.args.inbox.now c.serve_all-halt.new.inbox c.serve_all-halt.new.senders.ended) x (stopped_with c.serve_all-halt.new.out.records.now (g.D.Disk.held c.serve_all-halt.new.out.disk.now) (g.D.Disk.calls c.serve_all-halt.new.out.disk.now) c.serve_all-halt.new.owner.order (g.T.Told.heard c.serve_all-halt.new.out.told.now) c.serve_all-halt.new.out.back.now) c.serve_all-halt.result)
    (opened_is c.in-Ok.owner c.args.inbox.now.senders c.len.result c.args.out.now.records.now (g.D.Disk.held c.args.out.now.disk.now) (g.D.Disk.calls c.args.out.now.disk.now) (g.T.Told.heard c.args.out.now.told.now) c.args.out.now.back.now c.in-Ok.ensures.clients (c.len.ensures ∙ c.requires.lines) c.in-Ok.ensures.met c.in-Ok.ensures.reached c.in-Ok.ensures.order)
    c.serve_all-halt.ensures.halted)
