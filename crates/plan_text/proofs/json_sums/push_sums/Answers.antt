use Rattle.plan_text.proofs.Cited.{ℕ, List, ◌∷◌, ◌++◌, ap, ◌∙◌, arith, beside_members, moved_members, then_append}
use Rattle.plan_text.proofs.ArrayLaws.{closed_more}
use Rattle.plan_text.proofs.LineLaws.{joined_four}
use Rattle.plan_text.proofs.json_sums.push_sums.Goals as goal

pub returns : goal.returns
returns c =
    then_append _ _ _ _ _ c.in_ok-push_numbered.ensures
    (joined_four _ _ _ _ _ c.in_ok-push_moved.ensures c.in_ok-push_numbered-2.ensures c.in_ok-push_numbered-3.ensures (then_append _ _ _ _ _ (rw c.as_slice.ensures at c.in_ok-push_cells.ensures) c.in_ok-push.ensures.items)
    ∙ ap (λ (t : List ℕ). c.push_numbered.new.out.items ++ 44 ∷ t) (closed_more (moved_members c.args.sums.now) (beside_members c.args.sums.now) (omega arith) (omega arith)))
