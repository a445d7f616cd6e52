use Rattle.printed_text.proofs.Cited.{◌≡◌, List, ℕ, arith, slab, then_append}
use Rattle.printed_text.proofs.WordLaws.{then_three}
use Rattle.printed_text.proofs.offsets.push_var.Goals as goal

pub returns : goal.returns
returns c =
    let o : List ℕ = c.args.out.now.items in
    let whole : c.slab_of-size.result ≡ slab c.args.header.now c.args.var.now = omega (arith, c.slab_of-size.ensures, c.requires) in
    let front = then_three o _ _ _ c.in_ok-push_title.ensures c.in_ok-push_number_line.ensures (rw whole at c.in_ok-push_number_line-2.ensures) in
    then_append o _ _ _ _ front (rw whole at c.in_ok-push_number_line-3.ensures)
