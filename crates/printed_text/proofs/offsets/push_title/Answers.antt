use Rattle.printed_text.proofs.Cited.{List, ℕ, [], ◌∷◌, append_assoc, then_append}
use Rattle.printed_text.proofs.WordLaws.{then_three}
use Rattle.printed_text.proofs.offsets.push_title.Goals as goal

pub returns : goal.returns
returns c =
    let o : List ℕ = c.args.out.now.items in
    let named = then_three o _ _ _ c.in_ok-push_bytes.ensures (rw c.type_word.ensures at c.in_ok-push_bytes-2.ensures) (rw c.as_slice.ensures at c.in_ok-push_word.ensures) in
    let shaped = then_append o _ _ _ _ named (rw c.as_slice-2.ensures at c.in_ok-push_shape.ensures) in
    let whole = then_append o _ _ _ (58 ∷ 10 ∷ []) shaped c.in_ok-push_bytes-3.ensures in
    rw whole (simp append_assoc)
