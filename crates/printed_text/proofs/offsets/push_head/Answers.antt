use Rattle.printed_text.proofs.Cited.{◌≡◌, List, ℕ, arith, header_len, header_short, then_append}
use Rattle.printed_text.proofs.WordLaws.{then_three}
use Rattle.printed_text.proofs.offsets.push_head.Goals as goal

pub returns : goal.returns
returns c =
    let o : List ℕ = c.args.out.now.items in
    let len : c.header_len-len.result ≡ header_len c.args.header.now = omega (arith, c.header_len-len.ensures, header_short c.args.header.now c.requires) in
    let front = then_three o _ _ _ (rw c.from.ensures at c.in_ok-push_number_line.ensures) c.in_ok-push_bytes.ensures (rw len at c.in_ok-push_measure.ensures) in
    then_append o _ _ _ _ front (rw (c.extent.ensures, c.as_slice.ensures, len) at c.in_ok-push_measure-2.ensures)
