use Rattle.script_text.proofs.Words.{List, ℕ, [], ◌∷◌, ◌++◌, sym, ap, ◌∙◌, flat_map-append, size_list, spaced, then_append}
use Rattle.script_text.proofs.calls.push_mapped.Goals as goal

pub returns : goal.returns
returns c =
    let o : List ℕ = c.args.out.now.items in
    let g = c.args.given.now in
    let box : List (List ℕ) = size_list g.start ∷ size_list g.count ∷ [] in
    let steps : List (List ℕ) = size_list g.stride ∷ size_list g.imap ∷ [] in
    let second = rw (c.as_slice-3.ensures, c.as_slice-4.ensures) at c.in_ok-push_box-2.ensures in
    then_append o _ _ (spaced box) (spaced steps) (rw (c.as_slice.ensures, c.as_slice-2.ensures) at c.in_ok-push_box.ensures) second
    ∙ ap (λ (t : List ℕ). o ++ t) (sym (flat_map-append (λ (w : List ℕ). 32 ∷ w) box steps))
