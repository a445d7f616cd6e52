use Rattle.generated_run.proofs.Words.{ℕ, List, [], ◌∷◌, ◌++◌, codes, decimal, length, map, sum, sym, ap, ◌∙◌, append_assoc, Call, line, then_append}
use Rattle.std.specs.Prelude.{count_by}
use Rattle.serial_spec.specs.History.{is_meeting}
use Rattle.generated_run.proofs.summary.push_run.Goals as goal

pub returns : goal.returns
returns c =
    let o : List ℕ = c.args.out.now.items in
    let script = c.args.script.now in
    let counted : List ℕ → ℕ → List ℕ = λ word n. line (word ∷ decimal n ∷ []) in
    let seed : List ℕ = codes "generated " ++ decimal c.args.seed in
    let size : List ℕ = 32 ∷ decimal c.args.size in
    let made : List ℕ = line (codes "generated" ∷ decimal c.args.seed ∷ decimal c.args.size ∷ []) in
    let ranks : List ℕ = counted (codes "ranks") script.ranks in
    let calls : List ℕ = counted (codes "calls") (sum (map (λ (own : List Call). length own) script.calls)) in
    let meetings : List ℕ = counted (codes "collectives") (count_by is_meeting c.args.order.now) in
    let one =
    then_append o _ _ seed (size ++ 10 ∷ []) c.in_ok-push_numbered.ensures (rw c.from.ensures at c.in_ok-push_number_line.ensures)
    ∙ ap (λ (t : List ℕ). o ++ t) (sym (append_assoc seed size (10 ∷ []))) in
    let two = rw c.from-2.ensures at c.in_ok-push_number_line-2.ensures in
    let three = c.in_ok-push_number_line-3.ensures ∙ ap (λ (n : ℕ). c.push_number_line-2.new.out.items ++ counted (codes "calls") n) (rw c.as_slice.ensures at c.in_ok-call_count.ensures) in
    let four = c.in_ok-push_number_line-4.ensures ∙ ap (λ (n : ℕ). c.push_number_line-3.new.out.items ++ counted (codes "collectives") n) (rw c.as_slice-2.ensures at c.meetings.ensures) in
    then_append o _ _ (made ++ ranks ++ calls) meetings (then_append o _ _ (made ++ ranks) calls (then_append o _ _ made ranks one two) three) four
