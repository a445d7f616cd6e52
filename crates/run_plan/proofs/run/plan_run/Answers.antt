-- The plan of a run, from its first stage to its end.
use Rattle.run_plan.proofs.Words.{refl, ◌∙◌, subst, List, rules, with_items_is, Runner, first_count, first_free, first_runners, HasEnded}
use Rattle.run_plan.proofs.EndLaws.{are_planned}
use Rattle.run_plan.proofs.run.plan_run.Goals as goal
use Rattle.step_plan.proofs.DomainLaws.{ok_so}

pub hold_meetings-requires-clause-runners : goal.hold_meetings-requires-clause-runners
hold_meetings-requires-clause-runners g c =
    rw c.new-2.ensures
    (first_runners c.args.script.now c.args.header.now c.args.opening.size c.args.header.now.records c.deref_mut.result.now c.requires.lawful c.requires.sound refl c.requires.long (c.deref_mut.ensures.value ∙ c.in_ok-runners.ensures))

pub hold_meetings-requires-clause-free : goal.hold_meetings-requires-clause-free
hold_meetings-requires-clause-free g c =
    first_free c.args.header.now c.args.script.now.ranks c.args.header.now.records c.deref_mut.result.now (c.deref_mut.ensures.value ∙ c.in_ok-runners.ensures)

pub hold_meetings-requires-clause-records : goal.hold_meetings-requires-clause-records
hold_meetings-requires-clause-records g c =
    first_count c.args.header.now c.args.opening.size c.args.header.now.records c.requires.sound refl c.requires.long

pub returns-clause-plan : goal.returns-clause-plan
returns-clause-plan g c =
    let script = c.args.script.now in
    let header = c.args.header.now in
    let at = c.hold_meetings.new.progress in
    let last = c.hold_meetings.new.runners in
    let done = c.in_ok-hold_meetings.ensures in
    let now = with_items_is c.in_ok-runners.runners last (search rules) in
    ok_so c.ended.result (λ plan h.
    are_planned script header c.args.opening.size _ c.args.opening.calls at c.deref_mut.result.now last plan c.requires.lawful (c.deref_mut.ensures.value ∙ c.in_ok-runners.ensures) c.new-2.ensures
    done.runners done.free done.arrived done.planned (subst (λ (runners : List Runner). HasEnded header c.args.opening.calls at runners plan) now h)) c.ended.ensures
