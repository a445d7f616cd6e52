use Rattle.script_text.proofs.Words.{List, ℕ, [], ◌∷◌, ◌++◌, cond, codes, decimal, shown_hints, line, then_append}
use Rattle.script_text.proofs.canonical.push_opening.Goals as goal

pub returns : goal.returns
returns c =
    let o : List ℕ = c.args.out.now.items in
    let s = c.args.script.now in
    let head : List ℕ = cond s.fresh (line (codes "create" ∷ decimal s.header.version ∷ [])) (line (codes "open" ∷ [])) in
    let ranks : List ℕ = line (codes "ranks" ∷ decimal s.ranks ∷ []) in
    let hints : List ℕ = shown_hints s.hints in
    let fill : List ℕ = cond s.filled (line (codes "fill" ∷ [])) [] in
    let two = then_append o _ _ head ranks c.in_ok-push_head.ensures (rw c.from.ensures at c.in_ok-push_number_line.ensures) in
    then_append o _ _ (head ++ ranks ++ hints) fill (then_append o _ _ (head ++ ranks) hints two c.in_ok-push_hints.ensures) c.in_ok-push_fill.ensures
