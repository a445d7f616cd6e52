use Rattle.plan_text.proofs.Cited.{◌≡◌, arith, header_len, header_short, then_append}
use Rattle.plan_text.proofs.LineLaws.{joined_four}
use Rattle.plan_text.proofs.json_head.push_dataset.Goals as goal

pub returns : goal.returns
returns c =
    let len : c.header_len.result ≡ header_len c.args.header.now = omega (arith, c.header_len.ensures, header_short c.args.header.now c.requires) in
    joined_four _ _ _ _ _ (rw c.from.ensures at c.in_ok-push_numbered.ensures) (rw len at c.in_ok-push_numbered-2.ensures) c.in_ok-push_numbered-3.ensures
    (joined_four _ _ _ _ _ (rw c.recsize.ensures.value at c.in_ok-push_numbered-4.ensures) c.in_ok-push_numbered-5.ensures c.in_ok-push_bytes.ensures (then_append _ _ _ _ _ c.in_ok-push_variables.ensures c.in_ok-push.ensures.items))
