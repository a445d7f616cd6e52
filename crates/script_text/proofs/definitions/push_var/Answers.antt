use Rattle.script_text.proofs.Words.{List, ℕ, [], ◌∷◌, ◌++◌, codes, map, ap, ◌∙◌, bracketed, dim_name, joined, type_word, then_append}
use Rattle.script_text.proofs.PrintingLaws.{title_then}
use Rattle.script_text.proofs.definitions.push_var.Goals as goal

pub returns : goal.returns
returns c =
    let o : List ℕ = c.args.out.now.items in
    let kind = c.args.var.now.kind in
    let name : List ℕ = c.args.var.now.name in
    let b : List ℕ = bracketed (map (dim_name c.args.header.now) c.args.var.now.dims) in
    let front : List ℕ = joined 32 (codes "var" ∷ type_word kind ∷ name ∷ []) ++ 32 ∷ [] in
    let two = then_append o _ _ front b (rw c.as_slice.ensures at c.in_ok-push_var_title.ensures) (rw c.as_slice-2.ensures at c.in_ok-push_shape.ensures) in
    then_append o _ _ (front ++ b) (10 ∷ []) two c.in_ok-push.ensures.items
    ∙ ap (λ (x : List ℕ). o ++ 118 ∷ 97 ∷ 114 ∷ 32 ∷ (x ++ 10 ∷ [])) (title_then (type_word kind) name b)
