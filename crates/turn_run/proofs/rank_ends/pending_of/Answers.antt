-- One number more.
use Rattle.turn_run.proofs.Words.{ℕ, List, ◌++◌, ◌∷◌, [], ◌∙◌, sym, ap, arith, map_more}
use Rattle.turn_run.proofs.rank_ends.pending_of.Goals as goal

pub loop-end-preserved : goal.loop-end-preserved
loop-end-preserved c = c.in_ok-push.ensures.items ∙ ap (λ (ns : List ℕ). ns ++ c.end-item.result.pending ∷ []) c.loop-end.invariant ∙ sym (map_more (λ end. end.pending) _ _ _ (omega arith) c.end-item.is)
