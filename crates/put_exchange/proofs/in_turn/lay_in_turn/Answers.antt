-- Each window is overlaid with the entries' bytes.
use Rattle.put_exchange.proofs.Words.{ap, Job, ◌≡◌, ◌∙◌, refl, sym, subst, ℕ, List, arith, Batch, after, BothTold, IsBetween, told_window, ArePieces, source_in, cells_in, put_window, IsFilledBy, source_of, err_not_ok, plan_on, plan_windows, due_now, served_are, nat_tests}
use Rattle.put_exchange.proofs.InTurnLaws.{in_turn_begin, in_turn_cut, in_turn_end, in_turn_next, in_turn_whole, served_filled}
use Rattle.put_exchange.proofs.in_turn.lay_in_turn.Goals as goal

pub turns-init : goal.turns-init
turns-init g c =
    let plan = c.args.plan.now in
    let batches = plan.job.now.batches in
    let list = plan.list.now in
    let cover = plan.cover.now in
    let size = plan.hints.now.cb_buffer in
    let domain = c.args.aggregator.domain in
    let from = g.D.Disk.from c.args.part.now in
    let len = g.D.Disk.len c.args.part.now in
    record {
      served = in_turn_begin (source_in plan) _ _ _ _ _ _ (g.D.Disk.held c.args.part.now) (g.D.Disk.calls c.args.part.now)
          c.new-walk.ensures.ready c.new-walk.ensures.at c.new-walk.ensures.windows
          (plan_on _ _ _ _ _ _ _ c.requires.plan c.requires.domain) (plan_windows _ _ _ _ _ _ _ c.requires.plan c.requires.domain) (g.D.Disk.told c.args.part.now);
      from = refl;
      len = refl;
      later = omega arith;
    }

pub put_turn-requires-clause-reach : goal.put_turn-requires-clause-reach
put_turn-requires-clause-reach g c κs within =
    let due = due_now _ _ _ _ _ _ _ _ (told_window c.in-Some.turn.window) c.requires.plan.ends c.turns.invariant.served.here c.turns.invariant.served.on_part c.in-Some.ensures.some c.in-Some.ensures.front in
    grind (arith, nat_tests, c.turns.invariant.from, c.turns.invariant.len, c.requires.room)

pub put_turn-requires-clause-pieces : goal.put_turn-requires-clause-pieces
put_turn-requires-clause-pieces g c κs within =
    let t = told_window c.in-Some.turn.window in
    let due = due_now _ _ _ _ _ _ _ _ t c.requires.plan.ends c.turns.invariant.served.here c.turns.invariant.served.on_part c.in-Some.ensures.some c.in-Some.ensures.front in
    subst (λ (bs : List Batch). ArePieces (source_of bs) c.in-Some.turn.entries.now) (sym (c.as_slice-batches.ensures ∙ ap (λ (j : Job). j.batches) c.job.ensures))
    (served_are (source_in c.args.plan.now) _ _ _ _ due.served c.requires.plan.pieces)

pub put_turn-requires-clause-whole : goal.put_turn-requires-clause-whole
put_turn-requires-clause-whole g c κs within =
    let t = told_window c.in-Some.turn.window in
    let due = due_now _ _ _ _ _ _ _ _ t c.requires.plan.ends c.turns.invariant.served.here c.turns.invariant.served.on_part c.in-Some.ensures.some c.in-Some.ensures.front in
    subst (λ (bs : List Batch). IsFilledBy t (cells_in (source_of bs) t c.in-Some.turn.entries.now)) (sym (c.as_slice-batches.ensures ∙ ap (λ (j : Job). j.batches) c.job.ensures))
    (served_filled (source_in c.args.plan.now) _ _ _ t due.served c.requires.plan.pieces due.turn)

pub turns-preserved : goal.turns-preserved
turns-preserved g c =
    let plan = c.args.plan.now in
    let t = told_window c.in-Some.turn.window in
    let begun = c.in-Some.turn.entries.now in
    let from = g.D.Disk.from c.args.part.now in
    let later = c.in_ok-put_turn.ensures.cause.later in
    let before = c.turns.invariant.later in
    record {
      served = in_turn_next _ _ _ _ _ _ _ _ _ t _ _ (g.D.Disk.held c.put_turn.new.part) _ _ _ (g.D.Disk.told c.args.part.now) c.requires.plan.one c.turns.invariant.served c.in-Some.ensures.some c.in-Some.ensures.ready c.in-Some.ensures.front c.in-Some.ensures.past
          (subst (λ (bs : List Batch). g.D.Disk.held c.put_turn.new.part ≡ after (put_window (source_of bs) from t begun) (g.D.Disk.held c.turns.part)) (c.as_slice-batches.ensures ∙ ap (λ (j : Job). j.batches) c.job.ensures)
          (subst (λ (n : ℕ). g.D.Disk.held c.put_turn.new.part ≡ after (put_window (source_of c.as_slice-batches.result.now) n t begun) (g.D.Disk.held c.turns.part)) c.turns.invariant.from
          c.in_ok-put_turn.ensures.bytes))
          c.in_ok-put_turn.ensures.calls;
      from = c.in_ok-put_turn.ensures.from ∙ c.turns.invariant.from;
      len = c.in_ok-put_turn.ensures.len ∙ c.turns.invariant.len;
      later = omega arith;
    }

pub returns-in_err-put_turn-clause-put : goal.returns-in_err-put_turn-clause-put
returns-in_err-put_turn-clause-put g c =
    let plan = c.args.plan.now in
    let t = told_window c.in-Some.turn.window in
    let begun = c.in-Some.turn.entries.now in
    let from = g.D.Disk.from c.args.part.now in
    let later = c.in_err-put_turn.ensures.cause.later in
    let before = c.turns.invariant.later in
    record {
      from = c.in_err-put_turn.ensures.from ∙ c.turns.invariant.from;
      len = c.in_err-put_turn.ensures.len ∙ c.turns.invariant.len;
      bytes = err_not_ok _ _ c.from_residual.ensures.0;
      between = in_turn_cut _ _ _ _ _ _ _ _ c.next_turn.new.self t _ _ (g.D.Disk.held c.put_turn.new.part) _ _ (g.D.Disk.told c.args.part.now) c.requires.plan.one c.turns.invariant.served c.in-Some.ensures.some c.in-Some.ensures.front
          (subst (λ (bs : List Batch). BothTold (λ old left. IsBetween old (put_window (source_of bs) from t begun old) left) (g.D.Disk.held c.turns.part) (g.D.Disk.held c.put_turn.new.part)) (c.as_slice-batches.ensures ∙ ap (λ (j : Job). j.batches) c.job.ensures)
          (subst (λ (n : ℕ). BothTold (λ old left. IsBetween old (put_window (source_of c.as_slice-batches.result.now) n t begun old) left) (g.D.Disk.held c.turns.part) (g.D.Disk.held c.put_turn.new.part))
          c.turns.invariant.from c.in_err-put_turn.ensures.between));
      device = err_not_ok _ _ c.from_residual.ensures.0;
      later = omega arith;
    }

pub returns-clause-put : goal.returns-clause-put
returns-clause-put g c =
    let plan = c.args.plan.now in
    let end = in_turn_end _ _ _ _ _ _ _ _ _ _ _ c.turns.invariant.served c.in_default.ensures.none in
    grind (arith, nat_tests, in_turn_whole, c.turns.invariant.from, c.turns.invariant.len, c.turns.invariant.served, c.turns.invariant.later)
