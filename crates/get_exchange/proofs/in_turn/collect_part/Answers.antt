-- Each window is read, and the entries' bytes in it are placed.
use Rattle.get_exchange.proofs.Words.{◌+◌, ◌∙◌, ◌∷◌, ap, refl, sym, subst, arith, IsWalk, Window, WindowWalk, told_window, entries_left, IsPast, Told, turns_ahead, err_not_ok, left_ends, left_filled, left_sorted, turn_limit, nat_tests}
use Rattle.get_exchange.proofs.CollectLaws.{filled_served, fit_as_long, fit_served}
use Rattle.get_exchange.proofs.FetchLaws.{get_on}
use Rattle.get_exchange.proofs.TurnReads.{reading_begin, reading_due, reading_end, reading_next}
use Rattle.get_exchange.proofs.in_turn.collect_part.Goals as goal

pub turns-init : goal.turns-init
turns-init g c =
    let plan = c.args.plan.now in
    let p = c.requires.plan in
    let domain = c.args.reader.now.aggregator.domain in
    let from = g.D.Disk.from c.args.part.now in
    let len = g.D.Disk.len c.args.part.now in
    record {
      reading = reading_begin _ _ from len _ c.new-walk.result (g.D.Disk.held c.args.part.now) c.args.table.now (g.D.Disk.calls c.args.part.now) c.new-walk.ensures.ready
          c.new-walk.ensures.at c.new-walk.ensures.windows (get_on _ _ _ _ _ _ p c.requires.domain);
      held = refl;
      from = refl;
      len = refl;
      later = omega arith;
    }

pub turn-turn-requires : goal.turn-turn-requires
turn-turn-requires g c =
    let plan = c.args.plan.now in
    let s = c.turns.invariant.reading in
    record {
      sorted = left_sorted _ _ _ _ _ _ c.requires.plan.sorted s.here c.in-Some.ensures.some;
      end = turn_limit _ _ _ _ _ _ c.requires.plan.ends s.here c.in-Some.ensures.some;
    }

pub collect_turn-requires-clause-reach : goal.collect_turn-requires-clause-reach
collect_turn-requires-clause-reach g c κs within =
    let due = reading_due _ c.next_window.new.windows _ c.turn-turn.result.window c.requires.plan.ends c.turns.invariant.reading c.in-Some.ensures.some c.turn-turn.ensures.window c.turn-turn.ensures.front in
    grind (arith, nat_tests, c.turns.invariant.from, c.turns.invariant.len, c.requires.room)

pub collect_turn-requires-clause-can : goal.collect_turn-requires-clause-can
collect_turn-requires-clause-can g c κs within =
    let due = reading_due _ c.next_window.new.windows _ c.turn-turn.result.window c.requires.plan.ends c.turns.invariant.reading c.in-Some.ensures.some c.turn-turn.ensures.window c.turn-turn.ensures.front in
    record {
      ends = due.ends;
      filled = filled_served _ _ _ _ due.served c.requires.plan.filled;
      fit = fit_served c.turns.table _ _ _ _ due.served (fit_as_long c.args.table.now c.turns.table c.args.plan.now.list.now c.turns.invariant.reading.long c.requires.fit);
    }

pub go_past-requires : goal.go_past-requires
go_past-requires g c =
    let plan = c.args.plan.now in
    let s = c.turns.invariant.reading in
    record {
      ends = left_ends _ _ _ _ _ _ c.requires.plan.ends s.here c.in-Some.ensures.some;
      filled = left_filled _ _ _ _ _ _ c.requires.plan.filled s.here c.in-Some.ensures.some;
      end = turn_limit _ _ _ _ _ _ c.requires.plan.ends s.here c.in-Some.ensures.some;
    }

pub turns-preserved : goal.turns-preserved
turns-preserved g c =
    let plan = c.args.plan.now in
    let t : Told = told_window c.turn-turn.result.window in
    let same = sym c.turn-turn.ensures.window in
    let later = c.in_ok-collect_turn.ensures.cause.later in
    let before = c.turns.invariant.later in
    let kept = c.go_past.ensures.windows in
    record {
      reading = reading_next _ _ _ _ _ _ _ _ c.go_past.new.self t _ _ _ _ _ _ _ _ c.requires.one_place c.requires.fit c.turns.invariant.reading
          (c.in-Some.ensures.some ∙ ap (λ (w : Window). told_window w ∷ turns_ahead c.next_window.new.windows) same ∙ ap (λ (ws : WindowWalk). t ∷ turns_ahead ws) (sym kept))
          (subst (λ (ws : WindowWalk). IsWalk ws) (sym kept) c.in-Some.ensures.ready) c.turn-turn.ensures.front
          (subst (λ (w : Window). IsPast (w.hull.at + w.hull.len) (entries_left c.turns.walk.entries) (entries_left c.go_past.new.self.entries)) same c.go_past.ensures.past)
          c.turns.invariant.from c.turns.invariant.held c.in_ok-collect_turn.ensures.read c.in_ok-collect_turn.ensures.blobs c.in_ok-collect_turn.ensures.calls;
      held = c.in_ok-collect_turn.ensures.bytes ∙ c.turns.invariant.held;
      from = c.in_ok-collect_turn.ensures.from ∙ c.turns.invariant.from;
      len = c.in_ok-collect_turn.ensures.len ∙ c.turns.invariant.len;
      later = omega arith;
    }

pub returns-in_err-collect_turn-clause-got : goal.returns-in_err-collect_turn-clause-got
returns-in_err-collect_turn-clause-got g c =
    let later = c.in_err-collect_turn.ensures.cause.later in
    grind (arith, nat_tests, err_not_ok, c.turns.invariant.later, c.in_err-collect_turn.ensures.from, c.turns.invariant.from, c.in_err-collect_turn.ensures.len, c.turns.invariant.len, c.in_err-collect_turn.ensures.bytes, c.turns.invariant.held, c.from_residual.ensures.0)

pub returns-in_err-collect_turn-clause-blobs : goal.returns-in_err-collect_turn-clause-blobs
returns-in_err-collect_turn-clause-blobs g c = c.in_err-collect_turn.ensures.blobs ∙ c.turns.invariant.reading.long

pub returns : goal.returns
returns g c =
    let end = reading_end _ _ _ _ _ _ _ _ _ _ _ c.turns.invariant.reading c.in_default.ensures.none in
    grind (arith, nat_tests, c.turns.invariant.from, c.turns.invariant.len, c.turns.invariant.held, c.turns.invariant.later, c.turns.invariant.reading.long)
