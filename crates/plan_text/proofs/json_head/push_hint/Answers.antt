use Rattle.plan_text.proofs.LineLaws.{joined_four}
use Rattle.plan_text.proofs.json_head.push_hint.Goals as goal

pub returns : goal.returns
returns c =
    joined_four _ _ _ _ _ (rw c.word.ensures at c.in_ok-push_named.ensures) (rw (c.form.ensures.form, c.get.ensures) at c.in_ok-push_value.ensures)
    (rw (c.form-2.ensures.form, c.from.ensures, c.default.ensures) at c.in_ok-push_value-2.ensures) c.in_ok-push.ensures.items
