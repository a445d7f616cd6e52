-- Each window is served by the messages that are due in it.
use Rattle.put_exchange.proofs.Words.{◌∙◌, inl, inr, refl, ap, length, List, false, get_or, arith, drop_all, told_window, Told, turns_due, messages_in, Due, nat_tests}
use Rattle.put_exchange.proofs.ServeLaws.{count_at, due_in, dues_left, served_begin, served_next, served_end}
use Rattle.put_exchange.proofs.laying.lay_part.Goals as goal

abbrev none : Due
none = record { window = record { round = 0; hull = record { at = 0; len = 0 }; full = false }; count = 0 }

pub loop-due-init : goal.loop-due-init
loop-due-init g c = record {
  of = refl;
  buf = refl;
  served = λ source ranks list plan.
      served_begin source _ _ ranks _ _ _ _ (g.D.Disk.held c.args.part.now) (g.D.Disk.calls c.args.part.now) _ plan.turns plan.windows (g.D.Disk.told c.args.part.now) c.requires.empty;
  from = refl;
  len = refl;
  later = omega arith;
  failed = λ e. absurd cc;
}

pub serve_turn-end-requires-after_bounds : goal.serve_turn-end-requires-after_bounds
serve_turn-end-requires-after_bounds g c κs within =
    let t = told_window (get_or c.args.dues.now c.loop-due.due-index none).window in
    grind (arith, nat_tests, due_in c.args.dues.now, c.loop-due-test.true, c.requires.due.on_part, c.loop-due.invariant.from, c.loop-due.invariant.len, c.requires.due.limit, c.requires.due.short, c.loop-due.invariant.buf)

pub loop-due-preserved : goal.loop-due-preserved
loop-due-preserved g c =
    let from = g.D.Disk.from c.args.part.now in
    let dues = c.args.dues.now in
    let i = c.loop-due.due-index in
    let due = get_or dues i none in
    let t = told_window due.window in
    let on = c.requires.due.on_part t (due_in dues i none c.loop-due-test.true) in
    let later = c.serve_turn-end.ensures.later in
    let before = c.loop-due.invariant.later in
    record {
      of = c.serve_turn-end.ensures.of ∙ c.loop-due.invariant.of;
      buf = c.serve_turn-end.auto.buf ∙ c.loop-due.invariant.buf;
      served = λ source ranks list plan.
          served_next _ _ (g.D.Disk.len c.args.part.now) _ _ _ _ _ _ _ t _ c.serve_turn-end.new.line.items _ _ (g.D.Disk.held c.serve_turn-end.new.part) _ _
          (g.D.Disk.calls c.serve_turn-end.new.part) _ c.serve_turn-end.result
          (record { pieces = plan.pieces; below = plan.below; one = plan.one; told = (g.D.Disk.told c.args.part.now) })
          (c.loop-due.invariant.served source ranks list plan) (dues_left dues i none c.loop-due-test.true) on.0 on.1
          (count_at (λ (u : Told). length (messages_in source ranks list u)) dues i none c.loop-due-test.true plan.counts)
          (record {
            took = c.serve_turn-end.ensures.taken;
            put = grind (arith, nat_tests, c.loop-due.invariant.from, c.serve_turn-end.ensures.put);
            kept = c.serve_turn-end.ensures.kept;
            ok = c.serve_turn-end.ensures.ok;
            device = c.serve_turn-end.ensures.calls;
          });
      from = c.serve_turn-end.ensures.from ∙ c.loop-due.invariant.from;
      len = c.serve_turn-end.ensures.len ∙ c.loop-due.invariant.len;
      later = omega arith;
      failed = λ e. elim (c.serve_turn-end.ensures.failed e) [ inl f ↦ (let r = c.loop-due.invariant.failed f in omega arith) | inr r ↦ omega arith ];
    }

pub returns-clause-served : goal.returns-clause-served
returns-clause-served g c =
    let from = g.D.Disk.from c.args.part.now in
    let dues = c.args.dues.now in
    let i = c.loop-due.due-index in
    let none_left = ap (λ (ds : List Due). turns_due ds) (drop_all i dues c.loop-due-test.false) in
    record {
      many = λ source ranks list plan.
          (served_end _ _ _ _ _ _ _ _ _ _ _ _ _ (c.loop-due.invariant.served source ranks list plan) none_left).many;
      put = λ source ranks list plan e.
          (let through = served_end _ _ _ _ _ _ _ _ _ _ _ _ _ (c.loop-due.invariant.served source ranks list plan) none_left in
          grind (arith, nat_tests, c.loop-due.invariant.from, c.loop-due.invariant.len, c.loop-due.invariant.later));
      failed = c.loop-due.invariant.failed;
    }
