-- Nothing went wrong before.
use Rattle.turn_run.proofs.Words.{◌≡◌, ℕ, refl, sym, subst, None, true, rules, ◌∙◌, ap, Some, on_err_weaker, sound_small, is_sound, StepErr, on_ok, as_left, inl, inr}
use Rattle.turn_run.proofs.CountLaws.{count_begins, count_small}
use Rattle.turn_run.proofs.CutEnds.{closing_torn}
use Rattle.turn_run.proofs.TurnKnown.{raised_sound}
use Rattle.turn_run.proofs.EndedLaws.{ended_err, err_is}
use Rattle.turn_run.proofs.rank_ends.close.Goals as goal

pub raise_records-requires-clause-records : goal.raise_records-requires-clause-records
raise_records-requires-clause-records g c κs within = let none : c.args.before ≡ None = search rules in count_small _ _ _ (c.requires.count none)

pub raise_records-requires-clause-needed : goal.raise_records-requires-clause-needed
raise_records-requires-clause-needed g c κs within =
    let none : c.args.before ≡ None = search rules in
    sound_small (record c.args.header.now { records = c.greatest_known.result })
    (subst (λ (n : ℕ). is_sound (record c.args.header.now { records = n }) ≡ true) (sym c.greatest_known.ensures) (c.requires.known none (c.some_broke.ensures.none c.if-some_broke.false)))

pub raise_records-requires-clause-long : goal.raise_records-requires-clause-long
raise_records-requires-clause-long g c κs within = let none : c.args.before ≡ None = search rules in count_begins _ _ _ (c.requires.count none)

pub returns-clause-served : goal.returns-clause-served
returns-clause-served g c =
    let none : c.args.before ≡ None = search rules in
    on_ok c.raise_records.result (none, c.some_broke.ensures.none c.if-some_broke.false)

pub returns-clause-sound : goal.returns-clause-sound
returns-clause-sound g c =
    let none : c.args.before ≡ None = search rules in let count = c.requires.count none in
    raised_sound c.raise_records.result c.args.header.now c.args.records.now c.greatest_known.result _ count.sound
    (subst (λ (n : ℕ). is_sound (record c.args.header.now { records = n }) ≡ true) (sym c.greatest_known.ensures) (c.requires.known none (c.some_broke.ensures.none c.if-some_broke.false)))
    c.raise_records.ensures.records

pub returns-then-some_broke-clause-at : goal.returns-then-some_broke-clause-at
returns-then-some_broke-clause-at g c e is = as_left (inr (sym (err_is _ _ is))) refl refl

pub returns-in-Some-clause-at : goal.returns-in-Some-clause-at
returns-in-Some-clause-at g c e is = as_left (inl (c.in-Some.is ∙ ap (λ (x : StepErr). Some x) (err_is _ _ is))) refl refl

pub returns-clause-at : goal.returns-clause-at
returns-clause-at g c e is =
    let none : c.args.before ≡ None = search rules in
    ended_err _ _ _ _ _ _ _ _ _ _ is none (c.some_broke.ensures.none c.if-some_broke.false) c.greatest_known.ensures (on_err_weaker c.raise_records.result
    (closing_torn c.args.header.now c.args.records.now c.greatest_known.result c.greatest_known.result (g.D.Disk.held c.args.disk.now) (g.D.Disk.held c.raise_records.new.disk) refl) c.raise_records.ensures.refused)
    c.raise_records.ensures.kept
