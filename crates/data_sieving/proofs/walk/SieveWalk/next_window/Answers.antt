-- The window is that of the entries that begin before its end.
use Rattle.data_sieving.proofs.Words.{◌++◌, List, sym, subst, arith, Owned, in_right, entries_left, IsNext, none_got, sorted_right, front_sorted, nat_tests}
use Rattle.data_sieving.proofs.ReachSteps.{served_ends, served_filled}
use Rattle.data_sieving.proofs.NextSteps.{first_below, some_served, carried_at, is_next, is_ready, Ready}
use Rattle.data_sieving.proofs.walk.SieveWalk.next_window.Goals.{After-ahead_before-fresh}
use Rattle.data_sieving.proofs.walk.SieveWalk.next_window.Goals as goal

pub ahead_before-fresh-requires : goal.ahead_before-fresh-requires
ahead_before-fresh-requires c = record { sorted = sorted_right c.args.self.now.entries.carried.items c.args.self.now.entries.ahead.now c.requires.left.sorted }

ready : (c : After-ahead_before-fresh)
    → Ready c.as_slice-carried.result.now c.args.self.now.entries.ahead.now c.ahead_before-fresh.result.now c.args.self.now.from c.args.self.now.size c.max-at.result
    c.saturating_add-stop.result c.in-Some.first
ready c =
    is_ready c.args.self.now.entries.carried.items c.as_slice-carried.result.now c.args.self.now.entries.ahead.now c.ahead_before-fresh.result.now c.args.self.now.from
    c.args.self.now.size c.max-at.result c.saturating_add-stop.result c.in-Some.first c.as_slice-carried.ensures.value c.requires.left c.requires.across c.in-Some.ensures
    c.max-at.ensures c.saturating_add-stop.ensures c.ahead_before-fresh.ensures

pub window_of-window-requires : goal.window_of-window-requires
window_of-window-requires c =
    let r = ready c in
    let left = c.as_slice-carried.result.now ++ c.args.self.now.entries.ahead.now in
    grind (arith, nat_tests, front_sorted c.saturating_add-stop.result c.args.self.now.entries.ahead.now c.ahead_before-fresh.result.now, sorted_right c.args.self.now.entries.carried.items c.args.self.now.entries.ahead.now c.requires.left.sorted, served_ends r.left r.front, served_filled r.left r.front, in_right c.as_slice-carried.result.now c.ahead_before-fresh.result.now, carried_at c.as_slice-carried.result.now c.args.self.now.entries.ahead.now c.args.self.now.from, first_below r.left c.max-at.result c.in-Some.first r.at_first c.max-at.ensures, some_served left (c.as_slice-carried.result.now ++ c.ahead_before-fresh.result.now) c.max-at.result, c.ahead_before-fresh.ensures, c.ahead_before-fresh.ensures.before)

pub returns-clause-next : goal.returns-clause-next
returns-clause-next c =
    let r = is_ready c.args.self.now.entries.carried.items c.as_slice-carried.result.now c.args.self.now.entries.ahead.now c.ahead_before-fresh.result.now c.args.self.now.from
    c.args.self.now.size c.max-at.result c.saturating_add-stop.result c.in-Some.first c.as_slice-carried.ensures.value c.requires.left c.requires.across c.in-Some.ensures
    c.max-at.ensures c.saturating_add-stop.ensures c.ahead_before-fresh.ensures in
    subst (λ (l : List Owned). IsNext (l ++ c.args.self.now.entries.ahead.now) c.args.self.now.from c.args.self.now.size c.window_of-window.result
    (c.as_slice-carried.result.now ++ c.ahead_before-fresh.result.now) c.saturating_add-stop.result) c.as_slice-carried.ensures.value
    (is_next r.left c.max-at.result c.in-Some.first r.at_first c.max-at.ensures (c.as_slice-carried.result.now ++ c.ahead_before-fresh.result.now) c.saturating_add-stop.result
    c.window_of-window.result c.saturating_add-stop.ensures r.front c.window_of-window.ensures)

pub returns-in_default-clause-none : goal.returns-in_default-clause-none
returns-in_default-clause-none c = none_got (entries_left c.args.self.now.entries) (sym c.in_default.ensures)
