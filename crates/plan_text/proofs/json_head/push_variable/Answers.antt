use Rattle.plan_text.proofs.Cited.{◌≡◌, arith, slab}
use Rattle.plan_text.proofs.LineLaws.{joined_three, joined_four}
use Rattle.plan_text.proofs.json_head.push_variable.Goals as goal

pub returns : goal.returns
returns c =
    let size : c.slab_of.result ≡ slab c.args.header.now c.args.var.now = omega (arith, c.slab_of.ensures, c.requires) in
    joined_four _ _ _ _ _ (rw c.as_slice.ensures at c.in_ok-push_named.ensures) (rw c.type_word.ensures at c.in_ok-push_named-2.ensures) c.in_ok-push_numbered.ensures
    (joined_three _ _ _ _ (rw size at c.in_ok-push_numbered-2.ensures) (rw c.is_record.ensures at c.in_ok-push_truth.ensures) c.in_ok-push.ensures.items)
