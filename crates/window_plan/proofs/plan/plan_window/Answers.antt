-- The entries that are carried, and those behind them, end below the limit.
use Rattle.window_plan.proofs.Words.{List, sym, subst, map-append, Extent, Owned, extents_left, In, extents, in_right}
use Rattle.window_plan.proofs.plan.plan_window.Goals as goal

pub push_owners-requires-clause-ends : goal.push_owners-requires-clause-ends
push_owners-requires-clause-ends c = λ e m. c.requires.ends e (extents_left c.args.carried.now c.args.fresh.now e m)

pub push_owners-requires-2-clause-ends : goal.push_owners-requires-2-clause-ends
push_owners-requires-2-clause-ends c = λ e m.
    c.requires.ends e (subst (λ (es : List Extent). In es e) (sym (map-append (λ (o : Owned). o.extent) c.args.carried.now c.args.fresh.now))
    (in_right (extents c.args.carried.now) (extents c.args.fresh.now) e m))
