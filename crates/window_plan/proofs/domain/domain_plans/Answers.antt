-- Each window is planned by the entries that may have bytes in it.
use Rattle.window_plan.proofs.Words.{◌+◌, ◌<◌, ◌^◌, ◌++◌, sym, subst, List, min, arith, entries_left, told_window, all_left, walk_begin, sorted_right, AreInFront, turns_of, domain_turns, at_begin, front_carried, left_ends, left_filled, left_sorted, served_now, turn_limit, WindowPlan, nat_tests}
use Rattle.exchange_crew.proofs.TurnLaws.{served_ends}
use Rattle.window_plan.proofs.PlanLaws.{all_told, none_shared, planned_next, IsPlanning}
use Rattle.window_plan.proofs.domain.domain_plans.Goals as goal

pub windows-init : goal.windows-init
windows-init c =
    let list = c.args.list.now in
    grind (arith, nat_tests, all_left list c.new-entries.result.carried.items c.new-entries.result.ahead.now c.new-entries.ensures.carried, at_begin list (entries_left c.new-entries.result) (min c.args.size c.args.domain.len) 0, walk_begin list (entries_left c.new-entries.result), domain_turns c.args.size c.args.domain list c.args.cover.now c.requires.plan.some c.requires.plan.covers, none_shared list, c.requires.plan, c.new-entries.ensures.ahead, c.domain_windows-windows.ensures.ready, c.domain_windows-windows.ensures.windows, c.requires.plan.cover_bytes)

pub overflow_add-stop : goal.overflow_add-stop
overflow_add-stop c =
    let limit : c.in-Some.window.hull.at + c.in-Some.window.hull.len < 2 ^ 62 = turn_limit _ _ _ _ _ _ c.requires.plan.ends c.windows.invariant.here c.in-Some.ensures.some in
    omega arith

pub ahead_before-fresh-requires : goal.ahead_before-fresh-requires
ahead_before-fresh-requires c = record {
  sorted = sorted_right c.windows.entries.carried.items c.windows.entries.ahead.now (left_sorted _ _ _ _ _ _ c.requires.plan.sorted c.windows.invariant.here c.in-Some.ensures.some);
}

pub plan_window-requires-clause-hull : goal.plan_window-requires-clause-hull
plan_window-requires-clause-hull c = turn_limit _ _ _ _ _ _ c.requires.plan.ends c.windows.invariant.here c.in-Some.ensures.some

pub pass-requires-clause-ends : goal.pass-requires-clause-ends
pass-requires-clause-ends c = left_ends _ _ _ _ _ _ c.requires.plan.ends c.windows.invariant.here c.in-Some.ensures.some

pub pass-requires-clause-filled : goal.pass-requires-clause-filled
pass-requires-clause-filled c = left_filled _ _ _ _ _ _ c.requires.plan.filled c.windows.invariant.here c.in-Some.ensures.some

pub returns-clause-told : goal.returns-clause-told
returns-clause-told c = grind (arith, nat_tests, all_told, c.fitted.ensures, c.in_default.ensures.none, c.windows.invariant.told)

pub returns-clause-shared : goal.returns-clause-shared
returns-clause-shared c = rw c.fitted.ensures c.windows.invariant.shared

pub plan_window-requires-clause-ends : goal.plan_window-requires-clause-ends
plan_window-requires-clause-ends c =
    let w = c.in-Some.window in
    let stop = w.hull.at + w.hull.len in
    let front : AreInFront stop (entries_left c.windows.entries) (c.as_slice.result.now ++ c.ahead_before-fresh.result.now) =
    rw c.as_slice.ensures.value (front_carried stop c.windows.entries.carried.items c.windows.entries.ahead.now c.ahead_before-fresh.result.now c.ahead_before-fresh.ensures) in
    served_ends c.args.list.now _ w.hull.at stop (served_now _ _ _ _ _ _ (told_window w) c.windows.invariant.here c.in-Some.ensures.some front) c.requires.plan.ends

pub windows-preserved : goal.windows-preserved
windows-preserved c =
    let w = c.in-Some.window in
    let stop = w.hull.at + w.hull.len in
    let front : AreInFront stop (entries_left c.windows.entries) (c.as_slice.result.now ++ c.ahead_before-fresh.result.now) =
    rw c.as_slice.ensures.value (front_carried stop c.windows.entries.carried.items c.windows.entries.ahead.now c.ahead_before-fresh.result.now c.ahead_before-fresh.ensures) in
    subst (λ (ps : List WindowPlan). IsPlanning c.args.list.now (min c.args.size c.args.domain.len) (turns_of c.args.size c.args.domain c.args.cover.now) c.next_window.new.windows (entries_left c.pass.new.self) ps) (sym {A = List WindowPlan} c.in_ok-push.ensures.items)
    (planned_next _ _ _ _ c.next_window.new.windows _ (entries_left c.pass.new.self) _ _ w _ c.windows.invariant c.in-Some.ensures.ready c.in-Some.ensures.some front c.pass.ensures.past c.in_ok-plan_window.ensures)
