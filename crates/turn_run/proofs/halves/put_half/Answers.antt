-- No puts change nothing.
use Rattle.turn_run.proofs.Words.{◌≤◌, ◌∙◌, ℕ, Job, ap, subst, sym, collective_windows, end_for, setting}
use Rattle.turn_run.proofs.HalfLaws.{bytes_of_none, needed_of_none, put_calls_of_none, puts_of_none}
use Rattle.turn_run.proofs.halves.put_half.Goals as goal

pub returns-then-have_no_puts-clause-bytes : goal.returns-then-have_no_puts-clause-bytes
returns-then-have_no_puts-clause-bytes g c =
    let none = puts_of_none _ _ (c.as_slice.ensures ∙ ap (λ (j : Job). j.batches) c.job.ensures) (sym c.have_no_puts.ensures ∙ c.if-have_no_puts.true) in
    bytes_of_none _ _ _ _ _ none (g.D.Disk.told c.args.disk.now) c.requires.long

pub returns-then-have_no_puts-clause-long : goal.returns-then-have_no_puts-clause-long
returns-then-have_no_puts-clause-long g c =
    let s = setting c.args.dataset.now.header.now c.args.dataset.now.hints.now in
    let none = puts_of_none _ _ (c.as_slice.ensures ∙ ap (λ (j : Job). j.batches) c.job.ensures) (sym c.have_no_puts.ensures ∙ c.if-have_no_puts.true) in
    subst (λ (n : ℕ). end_for s n ≤ g.D.Disk.len c.args.disk.now) (sym (needed_of_none s _ none)) c.requires.long

pub returns-then-have_no_puts-clause-calls : goal.returns-then-have_no_puts-clause-calls
returns-then-have_no_puts-clause-calls g c =
    let none = puts_of_none _ _ (c.as_slice.ensures ∙ ap (λ (j : Job). j.batches) c.job.ensures) (sym c.have_no_puts.ensures ∙ c.if-have_no_puts.true) in
    put_calls_of_none (setting c.args.dataset.now.header.now c.args.dataset.now.hints.now) (collective_windows c.args.dataset.now.hints.now) _ (g.D.Disk.len c.args.disk.now)
    c.args.records.now (g.D.Disk.calls c.args.disk.now) none
