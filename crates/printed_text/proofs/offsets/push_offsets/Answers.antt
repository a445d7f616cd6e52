use Rattle.printed_text.proofs.Cited.{List, ℕ}
use Rattle.printed_text.proofs.WordLaws.{then_three}
use Rattle.printed_text.proofs.offsets.push_offsets.Goals as goal

pub returns : goal.returns
returns c =
    let o : List ℕ = c.args.out.now.items in
    let front = then_three o _ _ _ c.in_ok-push_head.ensures c.in_ok-push_bytes.ensures (rw c.as_slice.ensures at c.in_ok-push_dims.ensures) in
    let fixed = then_three o _ _ _ front c.in_ok-push_bytes-2.ensures c.in_ok-push_vars.ensures in
    then_three o _ _ _ fixed c.in_ok-push_bytes-3.ensures c.in_ok-push_vars-2.ensures
