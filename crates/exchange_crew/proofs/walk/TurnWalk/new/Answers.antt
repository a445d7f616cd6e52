-- No entry is gone.
use Rattle.exchange_crew.proofs.Words.{◌^◌, List, min, subst, sym, arith, Owned, IsPast, past_none, extents, EndBelow, IsByPlace, AreTurns, Told, turns_ahead}
use Rattle.exchange_crew.proofs.PlanLaws.{plan_turns}
use Rattle.exchange_crew.proofs.TurnLaws.{at_begin, turn_end, turn_in}
use Rattle.exchange_crew.proofs.walk.TurnWalk.new.Goals as goal

pub returns-clause-at : goal.returns-clause-at
returns-clause-at c =
    let plan = c.args.plan.now in
    let list = plan.list.now in
    let domain = c.args.domain in
    let room = min plan.hints.now.cb_buffer domain.len in
    at_begin list c.as_slice.result.now room 0 (turns_ahead c.domain_windows.result)
    (subst (λ (os : List Owned). IsPast 0 list os) (sym c.as_slice.ensures) (past_none 0 list)) (λ t m. omega arith)
    (subst (λ (ts : List Told). AreTurns list room ts) (sym c.domain_windows.ensures.windows) (plan_turns _ _ _ _ domain c.requires))

pub returns-clause-ready : goal.returns-clause-ready
returns-clause-ready c =
    let plan = c.args.plan.now in
    let list = plan.list.now in
    let given = c.requires in
    record {
      walk = c.domain_windows.ensures.ready;
      sorted = subst (λ (os : List Owned). IsByPlace (extents os)) (sym c.as_slice.ensures) given.sorted;
      ends = subst (λ (os : List Owned). EndBelow (2 ^ 62) (extents os)) (sym c.as_slice.ensures) given.ends;
      limit = λ t m. turn_end _ _ t given.ends (turn_in _ _ _ t (returns-clause-at c).turns m);
    }
