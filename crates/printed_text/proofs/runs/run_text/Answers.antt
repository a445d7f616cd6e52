use Rattle.printed_text.proofs.Cited.{List, ℕ, then_append}
use Rattle.printed_text.proofs.WordLaws.{then_three}
use Rattle.printed_text.proofs.runs.run_text.Goals as goal

pub returns : goal.returns
returns c =
    let o : List ℕ = c.new-out.result.items in
    let second = rw c.as_slice.ensures at c.in_ok-push_order.ensures in
    let third = rw (c.in_ok-names.ensures, c.as_slice-2.ensures) at c.in_ok-push_ranks.ensures in
    let front = then_three o _ _ _ (rw c.from.ensures at c.in_ok-push_number_line.ensures) second third in
    rw c.from_vec.ensures (rw c.new-out.ensures.items at (then_append o _ _ _ _ front c.in_ok-push_offsets.ensures))
