-- The run of a script, from its first stage to its end.
use Rattle.turn_run.proofs.Words.{◌≡◌, sym, ◌∙◌, ap, subst, List, map, Some, None, Err, rules, with_items_is, result_err, ServeEnd, Mark, StepErr, ranks_lawful, runner_end, AreRunners, Runner, arith, nat_tests}
use Rattle.nc_base.specs.declared.step.StepErr.TheVariants as fault
use Rattle.turn_run.proofs.CutRuns.{first_long}
use Rattle.turn_run.proofs.TellLaws.{told_nothing, told_whole}
use Rattle.turn_run.proofs.TurnRuns.{first_count, first_free, first_runners}
use Rattle.turn_run.proofs.TurnWhole.{err_there, known_sound, ok_there, run_in_turn, stopped_first}
use Rattle.turn_run.proofs.in_turn.run_in_turn_told.Goals as goal

-- ---- no memory before the first step

pub returns-in-Err : goal.returns-in-Err
returns-in-Err g c =
    let end = c.stopped.ensures in let none = end.order ∙ c.new-order.ensures in
    record { run = stopped_first _ _ _ _ _ _ _ c.requires.lawful c.requires.records none end.fault end.answers end.none_pending; told = told_nothing _ _ _ _ _ none }

pub returns-in-Err-runners_of : goal.returns-in-Err-runners_of
returns-in-Err-runners_of g c =
    let end = c.stopped-in-Err-runners_of.ensures in let none = end.order ∙ c.new-order.ensures in
    record { run = stopped_first _ _ _ _ _ _ _ c.requires.lawful c.requires.records none end.fault end.answers end.none_pending; told = told_nothing _ _ _ _ _ none }

pub returns-in-Err-with_capacity : goal.returns-in-Err-with_capacity
returns-in-Err-with_capacity g c =
    let end = c.stopped-in-Err-with_capacity.ensures in let none = end.order ∙ c.new-order.ensures in
    record { run = stopped_first _ _ _ _ _ _ _ c.requires.lawful c.requires.records none end.fault end.answers end.none_pending; told = told_nothing _ _ _ _ _ none }

-- ---- the meetings

pub hold_meetings-done-requires-clause-runners : goal.hold_meetings-done-requires-clause-runners
hold_meetings-done-requires-clause-runners g c κs within =
    subst (λ (ms : List Mark). AreRunners c.args.script.now c.args.header.now (g.D.Disk.len c.args.disk.now) ms c.deref_mut.result.now) (sym c.new-order.ensures)
    (first_runners c.args.script.now c.args.header.now (g.D.Disk.len c.args.disk.now) c.args.records.now c.deref_mut.result.now c.requires.lawful c.requires.sound
    c.requires.records c.requires.long (c.deref_mut.ensures.value ∙ c.in-Ok-runners_of.ensures))

pub hold_meetings-done-requires-clause-free : goal.hold_meetings-done-requires-clause-free
hold_meetings-done-requires-clause-free g c κs within =
    first_free c.args.header.now c.args.script.now.ranks c.args.records.now c.deref_mut.result.now (c.deref_mut.ensures.value ∙ c.in-Ok-runners_of.ensures)

pub hold_meetings-done-requires-clause-records : goal.hold_meetings-done-requires-clause-records
hold_meetings-done-requires-clause-records g c κs within = grind (arith, nat_tests, first_count, c.requires.records, c.requires.long)

-- ---- the end

pub end_run-requires-clause-count : goal.end_run-requires-clause-count
end_run-requires-clause-count g c κs within = grind (arith, nat_tests, ok_there)

pub end_run-requires-clause-known : goal.end_run-requires-clause-known
end_run-requires-clause-known g c κs within = λ none whole.
    let done = c.hold_meetings-done in
    let ok = sym c.err.ensures.value ∙ none in
    let now = with_items_is c.in-Ok-runners_of.runners done.new.runners (search rules) in
    known_sound c.args.script.now c.args.header.now (g.D.Disk.len done.new.disk) done.new.progress.records done.new.progress.order c.stop_after.result done.new.runners c.end_all.new.ends.items c.requires.sound
    (ok_there done.result done.ensures.records ok) (ok_there done.result done.ensures.runners ok) (c.end_all.ensures ∙ ap (λ (ss : List Runner). map (runner_end c.stop_after.result) ss) now)

pub returns-clause-run : goal.returns-clause-run
returns-clause-run g c =
    let script = c.args.script.now in
    let header = c.args.header.now in
    let disk = c.args.disk.now in
    let done = c.hold_meetings-done in
    let end = c.end_run in
    let first = c.deref_mut.result.now in
    let all = c.deref_mut.ensures.value ∙ c.in-Ok-runners_of.ensures in
    let why = c.stop_after.result in
    let now = with_items_is c.in-Ok-runners_of.runners done.new.runners (search rules) in
    let served : ServeEnd = record { order = done.new.progress.order; fault = c.err.result; stranger = None } in
    let ok : c.err.result ≡ None → result_err done.result ≡ None = λ none. sym c.err.ensures.value ∙ none in
    let err : (e : StepErr) → c.err.result ≡ Some e → done.result ≡ Err e = λ e some. err_there done.result e (sym c.err.ensures.value ∙ some) in
    run_in_turn script header (g.D.Disk.len done.new.disk) c.new-order.result served (g.D.Disk.held disk) (g.D.Disk.calls disk) (g.D.Disk.faults disk) c.args.records.now first
    (g.D.Disk.held done.new.disk) (g.D.Disk.calls done.new.disk) (g.D.Disk.faults done.new.disk) done.new.progress.records done.new.runners why c.end_all.new.ends.items
    c.requires.lawful c.requires.records all c.new-order.ensures (c.end_all.ensures ∙ ap (λ (ss : List Runner). map (runner_end why) ss) now)
    (record {
      through = λ none. record {
        runners = ok_there done.result done.ensures.runners (ok none);
        free = ok_there done.result done.ensures.free (ok none);
        arrived = ok_there done.result done.ensures.arrived (ok none);
        led = ok_there done.result done.ensures.led (ok none);
      };
      cut = λ e some. done.ensures.cut e (err e some);
      answered = λ e some. done.ensures.answered e (err e some);
      begun = done.ensures.begun;
      long = first_long script (ranks_lawful script c.requires.lawful).one_each header c.args.records.now first done.new.runners all done.auto.runners;
      cause = λ disk. done.ensures.cause.failed (err fault.Disk disk);
      later = done.ensures.cause.later;
    })
    (g.D.Disk.held end.new.disk) (g.D.Disk.calls end.new.disk) (g.D.Disk.faults end.new.disk) end.new.records end.result
    (record {
      order = end.ensures.order;
      went = end.ensures.served;
      closed = end.ensures.closed;
      sound = end.ensures.sound;
      answers = end.ensures.answers;
      pending = end.ensures.pending;
      none_pending = end.ensures.none_pending;
      first = end.ensures.first;
      cause = end.ensures.cause;
      later = end.ensures.later;
    })
    (λ e is. record {
      order = end.ensures.order;
      at = end.ensures.at e is;
      rows = end.ensures.rows e is;
      whole = λ disk. end.ensures.broke (is ∙ ap (λ (x : StepErr). Some x) disk);
      kept = λ disk. end.ensures.kept (is ∙ ap (λ (x : StepErr). Some x) disk);
    })

pub returns-clause-told : goal.returns-clause-told
returns-clause-told g c =
    told_whole c.args.script.now c.args.header.now (g.D.Disk.held c.args.disk.now) c.args.records.now c.deref_mut.result.now c.new-order.result c.hold_meetings-done.new.progress.order c.end_run.result.order
    (g.T.Told.heard c.args.told.now) (g.T.Told.heard c.hold_meetings-done.new.told) c.requires.lawful c.requires.records (c.deref_mut.ensures.value ∙ c.in-Ok-runners_of.ensures) c.new-order.ensures
    c.end_run.ensures.order c.hold_meetings-done.ensures.told
