-- The bytes of the window's hull were copied, and the next window is the part's next.
use Rattle.get_exchange.proofs.Words.{◌∙◌, ◌∷◌, List, Option, refl, sym, ap, rules, arith, common_steps, Window, WindowWalk, told_window, entries_left, turns_due_of, Told, turns_ahead, at_next, left_ends, left_filled, left_sorted, served_ends, served_now, turn_limit, nat_tests}
use Rattle.get_exchange.proofs.CollectLaws.{filled_served, fit_served}
use Rattle.get_exchange.proofs.ShelfLaws.{due_next, fewer_due, next_up, shelf_first}
use Rattle.get_exchange.proofs.TakeLaws.{taken_turn}
use Rattle.get_exchange.proofs.collecting.take_turn.Goals as goal

pub turn-turn-requires : goal.turn-turn-requires
turn-turn-requires g c =
    let walk = c.args.shelf.now.walk in
    let up = next_up c.args.plan.now.list.now c.args.shelf.now c.in-Some.window c.requires.ready c.in-Some.is in
    record {
      sorted = left_sorted _ _ _ _ (turns_ahead walk.windows) (told_window c.in-Some.window) c.requires.plan.sorted up.at refl;
      end = turn_limit _ _ _ _ (turns_ahead walk.windows) (told_window c.in-Some.window) c.requires.plan.ends up.at refl;
    }

pub collect_hull-came-requires : goal.collect_hull-came-requires
collect_hull-came-requires g c =
    let walk = c.args.shelf.now.walk in
    let up = next_up c.args.plan.now.list.now c.args.shelf.now c.in-Some.window c.requires.ready c.in-Some.is in
    let t : Told = told_window c.turn-turn.result.window in
    let same = ap (λ (w : Window). told_window w ∷ turns_ahead walk.windows) c.turn-turn.ensures.window in
    let served = served_now _ _ _ _ _ (turns_ahead walk.windows) t up.at (sym same) c.turn-turn.ensures.front in
    record {
      hull = turn_limit _ _ _ _ (turns_ahead walk.windows) t c.requires.plan.ends up.at (sym same);
      can = record {
        ends = served_ends _ _ _ _ served c.requires.plan.ends;
        filled = filled_served _ _ _ _ served c.requires.plan.filled;
        fit = fit_served c.args.table.now _ _ _ _ served c.requires.fit;
      };
    }

pub go_past-requires : goal.go_past-requires
go_past-requires g c =
    let walk = c.args.shelf.now.walk in
    let up = next_up c.args.plan.now.list.now c.args.shelf.now c.in-Some.window c.requires.ready c.in-Some.is in
    record {
      ends = left_ends _ _ _ _ (turns_ahead walk.windows) (told_window c.in-Some.window) c.requires.plan.ends up.at refl;
      filled = left_filled _ _ _ _ (turns_ahead walk.windows) (told_window c.in-Some.window) c.requires.plan.filled up.at refl;
      end = turn_limit _ _ _ _ (turns_ahead walk.windows) (told_window c.in-Some.window) c.requires.plan.ends up.at refl;
    }

pub next_window-shelf-requires : goal.next_window-shelf-requires
next_window-shelf-requires g c = grind (arith, nat_tests, next_up, c.go_past.ensures.windows)

pub returns-in-Hull-clause-ready : goal.returns-in-Hull-clause-ready
returns-in-Hull-clause-ready g c =
    let walk = c.args.shelf.now.walk in
    let up = next_up c.args.plan.now.list.now c.args.shelf.now c.in-Some.window c.requires.ready c.in-Some.is in
    let t : Told = told_window c.in-Some.window in
    let next = c.next_window-shelf.ensures in
    let later = c.go_past.new.self in
    let kept = ap (λ (ws : WindowWalk). t ∷ turns_ahead ws) (sym c.go_past.ensures.windows) in (
      c.requires.ready.0,
      shelf_first c.args.plan.now.list.now (entries_left later.entries) c.requires.ready.0 c.next_window-shelf.result (turns_ahead later.windows) (record { windows = c.next_window-shelf.new.windows; entries = later.entries })
          (at_next _ _ (entries_left later.entries) _ (t ∷ turns_ahead walk.windows) (turns_ahead later.windows) t up.at kept c.go_past.ensures.past) refl next.ready next.some,
    )

pub returns-in-Hull-clause-fewer : goal.returns-in-Hull-clause-fewer
returns-in-Hull-clause-fewer g c = grind (arith, nat_tests, fewer_due, c.go_past.ensures.windows, c.in-Some.is, c.next_window-shelf.ensures.some)

pub returns-in-Hull-clause-taken : goal.returns-in-Hull-clause-taken
returns-in-Hull-clause-taken g c =
    let walk = c.args.shelf.now.walk in
    let up = next_up c.args.plan.now.list.now c.args.shelf.now c.in-Some.window c.requires.ready c.in-Some.is in
    let t : Told = told_window c.turn-turn.result.window in
    let same = ap (λ (w : Window). told_window w ∷ turns_ahead walk.windows) c.turn-turn.ensures.window in
    let served = served_now _ _ _ _ _ (turns_ahead walk.windows) t up.at (sym same) c.turn-turn.ensures.front in
    let next = c.next_window-shelf.ensures in
    let due = due_next c.next_window-shelf.result (turns_ahead c.go_past.new.self.windows) c.next_window-shelf.new.windows next.none next.some
    ∙ ap (λ (ws : WindowWalk). turns_ahead ws) c.go_past.ensures.windows in
    taken_turn _ _ t c.in-Hull.blob c.args.shelf.now (record
    { line = _; next = c.next_window-shelf.result; walk = record { windows = c.next_window-shelf.new.windows; entries = c.go_past.new.self.entries } }) c.args.table.now
    c.collect_hull-came.new.table c.collect_hull-came.result (ap (λ (ts : List Told). t ∷ ts) due ∙ same ∙ sym
    (ap (λ (o : Option Window). turns_due_of o walk.windows) c.in-Some.is)) (first_of
    (search rules, grind (arith, common_steps))) c.requires.one_place c.requires.fit served c.collect_hull-came.ensures.long c.collect_hull-came.ensures.collected
