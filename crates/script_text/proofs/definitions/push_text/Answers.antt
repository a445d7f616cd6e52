use Rattle.script_text.proofs.Words.{List, ℕ, [], ◌∷◌, ◌++◌, sym, ap, ◌∙◌, quoted, then_append}
use Rattle.script_text.proofs.PrintingLaws.{text_pushed}
use Rattle.script_text.proofs.definitions.push_text.Goals as goal

pub returns : goal.returns
returns c =
    let o : List ℕ = c.args.out.now.items in
    then_append o _ _ (32 ∷ []) (quoted c.args.attr.now.bytes) c.in_ok-push.ensures.items (rw c.as_slice.ensures at c.in_ok-push_quoted.ensures)
    ∙ ap (λ (t : List ℕ). o ++ t) (sym (text_pushed c.args.attr.now c.requires.kind c.requires.whole))
