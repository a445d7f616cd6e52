-- The entries that have begun before the hull's end may have bytes in it; those that end by it are served.
use Rattle.exchange_crew.proofs.Words.{◌+◌, ◌^◌, List, sym, subst, arith, inl, inr, refl, Owned, In, extents, IsByPlace, EndBelow, told_window, IsPast, sorted_dropped, extents_dropped, taken_before, dropped_past, AreInFront, Told, rules, common_steps}
use Rattle.exchange_crew.proofs.TurnLaws.{begun_front}
use Rattle.exchange_crew.proofs.walk.TurnWalk.next_turn.Goals as goal

pub overflow_add-stop : goal.overflow_add-stop
overflow_add-stop c =
    omega (arith, c.requires.limit (told_window c.in_ok-window.window) (subst (λ (ts : List Told). In ts (told_window c.in_ok-window.window)) (sym c.in_ok-window.ensures.some) (inl refl)))

pub returns : goal.returns
returns c = record {
  ready = record {
    walk = c.in_ok-window.ensures.ready;
    sorted = subst (λ (l : List Owned). IsByPlace (extents l)) (sym c.tail-self.ensures)
        (sorted_dropped c.ends_by.result c.args.self.now.entries.now c.requires.sorted);
    ends = subst (λ (l : List Owned). EndBelow (2 ^ 62) (extents l))
        (sym c.tail-self.ensures) (λ e m. c.requires.ends e (extents_dropped c.ends_by.result c.args.self.now.entries.now e m));
    limit = λ t m. c.requires.limit t
        (subst (λ (ts : List Told). In ts t) (sym c.in_ok-window.ensures.some) (inr m));
  };
  none = first_of (search rules, grind (arith, common_steps));
  some = first_of (search rules, grind (arith, common_steps));
  front = subst (λ (l : List Owned). AreInFront (c.in_ok-window.window.hull.at + c.in_ok-window.window.hull.len) c.args.self.now.entries.now l) (sym c.head-entries.ensures)
      (begun_front (c.in_ok-window.window.hull.at + c.in_ok-window.window.hull.len) c.args.self.now.entries.now _
      (taken_before c.begins_before.result (c.in_ok-window.window.hull.at + c.in_ok-window.window.hull.len) c.args.self.now.entries.now c.requires.sorted
      c.begins_before.ensures.before c.begins_before.ensures.after));
  past = subst (λ (l : List Owned). IsPast (c.in_ok-window.window.hull.at + c.in_ok-window.window.hull.len) c.args.self.now.entries.now l) (sym c.tail-self.ensures)
      (dropped_past c.ends_by.result (c.in_ok-window.window.hull.at + c.in_ok-window.window.hull.len) c.args.self.now.entries.now c.ends_by.ensures.before);
}
