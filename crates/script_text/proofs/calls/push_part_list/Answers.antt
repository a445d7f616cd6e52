use Rattle.script_text.proofs.Words.{List, ℕ, ◌∷◌, ◌++◌, length, decimal, ap, ◌∙◌, flat_map, Part, part_words, spaced, then_append}
use Rattle.script_text.proofs.PrintingLaws.{spaced_parts}
use Rattle.script_text.proofs.calls.push_part_list.Goals as goal

pub returns : goal.returns
returns c =
    let o : List ℕ = c.args.out.now.items in
    let parts : List Part = c.args.parts.now in
    let n : List ℕ = 32 ∷ decimal (length parts) in
    then_append o _ _ n (flat_map (λ (p : Part). spaced (part_words p)) parts) c.in_ok-push_numbered.ensures c.in_ok-push_parts.ensures
    ∙ ap (λ (t : List ℕ). o ++ (n ++ t)) (spaced_parts part_words parts)
