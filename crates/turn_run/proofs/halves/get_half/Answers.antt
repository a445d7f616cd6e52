-- No gets read nothing.
use Rattle.turn_run.proofs.Words.{◌∙◌, sym, setting}
use Rattle.turn_run.proofs.HalfLaws.{calls_of_none, got_of_none, lens_of_none}
use Rattle.turn_run.proofs.halves.get_half.Goals as goal

pub returns-then-have_no_gets-clause-got : goal.returns-then-have_no_gets-clause-got
returns-then-have_no_gets-clause-got g c = got_of_none (setting c.args.dataset.now.header.now c.args.dataset.now.hints.now) _ _ _ c.as_slice-batches.ensures
    (sym c.have_no_gets.ensures ∙ c.if-have_no_gets.true) c.in_ok-empty_rows.ensures (g.D.Disk.held c.args.disk.now)

pub returns-then-have_no_gets-clause-fits : goal.returns-then-have_no_gets-clause-fits
returns-then-have_no_gets-clause-fits g c = lens_of_none _ _ _ _ c.as_slice-batches.ensures (sym c.have_no_gets.ensures ∙ c.if-have_no_gets.true) c.in_ok-empty_rows.ensures

pub returns-then-have_no_gets-clause-calls : goal.returns-then-have_no_gets-clause-calls
returns-then-have_no_gets-clause-calls g c =
    calls_of_none c.args.dataset.now.hints.now (setting c.args.dataset.now.header.now c.args.dataset.now.hints.now) c.as_slice-batches.result.now c.args.job.now.batches (g.D.Disk.calls c.args.disk.now)
    c.as_slice-batches.ensures (sym c.have_no_gets.ensures ∙ c.if-have_no_gets.true)
