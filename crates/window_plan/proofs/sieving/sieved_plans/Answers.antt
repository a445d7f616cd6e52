-- Each window is planned by the entries that may have bytes in it.
use Rattle.window_plan.proofs.Words.{sym, subst, ℕ, map, arith, entries_left, past_twice, all_left, walk_begin, entry_windows, entries_in, IsNext, none_carried, walk_ready, hull_end, served_ends, all_windows, goes_on, told_of, nat_tests}
use Rattle.window_plan.proofs.PlanLaws.{none_shared, sieved_end, sieved_next, IsSieving}
use Rattle.window_plan.proofs.sieving.sieved_plans.Goals as goal

pub windows-init : goal.windows-init
windows-init c =
    let list = c.args.list.now in
    grind (arith, nat_tests, all_left, walk_begin, all_windows, none_shared, walk_ready, none_carried, c.requires.sorted, c.requires.ends, c.requires.filled, c.requires.some)

pub plan_window-requires-clause-hull : goal.plan_window-requires-clause-hull
plan_window-requires-clause-hull c = hull_end c.in-Some.ensures.next c.windows.invariant.left

pub plan_window-requires-clause-ends : goal.plan_window-requires-clause-ends
plan_window-requires-clause-ends c = served_ends c.windows.invariant.left c.in-Some.ensures.next.front

pub windows-preserved : goal.windows-preserved
windows-preserved c =
    let list = c.args.list.now in
    let left = entries_left c.windows.walk.entries in
    let later = entries_left c.pass.new.self.entries in
    let whole = map told_of (entry_windows c.args.size list) in
    let next = subst (λ (n : ℕ). IsNext left c.windows.walk.from c.windows.walk.size c.in-Some.next.window (entries_in c.in-Some.next) n) (sym c.pass.ensures.from) c.in-Some.ensures.next in
    let further = goes_on c.windows.invariant.left next in
    let h = c.windows.invariant in
    let past = past_twice c.windows.walk.from c.pass.new.self.from list left later (omega arith) h.sieving.past c.pass.ensures.past in
    let before = subst (λ (n : ℕ). IsSieving list n c.windows.walk.from whole left c.windows.plans.items) (sym h.size) h.sieving in
    let after = sieved_next list c.windows.walk.size c.windows.walk.from c.pass.new.self.from whole left later (entries_in c.in-Some.next) c.windows.plans.items c.in-Some.next.window
    c.in_ok-plan_window.field-0 before h.left next past c.in_ok-plan_window.ensures in
    grind (arith, nat_tests, c.pass.ensures.left, c.pass.ensures.across, c.pass.ensures.size)

pub returns-clause-told : goal.returns-clause-told
returns-clause-told c = grind (arith, nat_tests, sieved_end, c.windows.invariant.sieving, c.fitted.ensures, c.in_default.ensures.none)

pub returns-clause-shared : goal.returns-clause-shared
returns-clause-shared c = rw c.fitted.ensures c.windows.invariant.sieving.shared
