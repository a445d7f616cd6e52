use Rattle.ncmpi_cli.proofs.Words.{◌≡◌, List, [], sym, subst, refl, ◌∙◌, Mark, marks, same_cause, unbegun_run, cut_run, no_answers, no_rows, stood_first, arith, nat_tests}
use Rattle.nc_base.specs.declared.step.StepErr.TheVariants as fault
use Rattle.turn_run.specs.Begun.{HasBegun}
use Rattle.ncmpi_cli.proofs.watched_run.not_begun.Goals as goal

pub returns-clause-run : goal.returns-clause-run
returns-clause-run g c =
    let script = c.args.script.now in
    let header = c.args.header.now in
    let disk = c.args.disk.now in
    let held = g.D.Disk.held disk in
    let count = c.args.records in
    let end = c.stopped.result in
    let none : end.order ≡ [] = c.stopped.ensures.order ∙ c.new.ensures in
    let begun : HasBegun script [] = record { known_ranks = refl; each_rank = λ r l. (marks script.calls r, refl) } in
    unbegun_run script header held (g.D.Disk.calls disk) (g.D.Disk.faults disk) held (g.D.Disk.calls disk) count end c.stopped.ensures.fault (subst (λ (order : List Mark). HasBegun script order) (sym none) begun)
    (λ e is.
    let memory = sym (same_cause fault.Memory e (sym c.stopped.ensures.fault ∙ is)) in
    grind (arith, nat_tests, cut_run script header e end.order held held count end.answers, no_rows script e end.answers memory c.stopped.ensures.answers, no_answers script header e end.order, stood_first script header e end.order held held count count c.requires.lawful memory none, c.requires.records)) c.stopped.ensures.none_pending
