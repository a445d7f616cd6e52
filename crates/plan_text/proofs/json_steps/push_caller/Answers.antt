use Rattle.plan_text.proofs.LineLaws.{joined_three, joined_four}
use Rattle.plan_text.proofs.json_steps.push_caller.Goals as goal

pub returns : goal.returns
returns c =
    joined_four _ _ _ _ _ (rw c.from.ensures at c.in_ok-push_numbered.ensures) (rw c.from-2.ensures at c.in_ok-push_numbered-2.ensures) c.in_ok-push_bytes.ensures
    (joined_three _ _ _ _ c.in_ok-push_word_text.ensures (rw c.answer_of.ensures at c.in_ok-push_named.ensures) c.in_ok-push.ensures.items)
