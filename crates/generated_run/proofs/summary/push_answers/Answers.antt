use Rattle.generated_run.proofs.Words.{rules, SFits, ℕ, List, [], ◌∷◌, ◌++◌, codes, decimal, map, sum, ap, ◌∙◌, ℤ, w128, signed_decimal, to_z-of_z, call_got, call_put, over_calls, refusals, sum_given, line, then_append, fold, pos, ◌+ℤ◌}
use Rattle.generated_run.proofs.summary.push_answers.Goals as goal

pub returns : goal.returns
returns c =
    let o : List ℕ = c.args.out.now.items in
    let calls = c.args.script.now.calls in
    let answers = c.args.answers.now in
    let counted : List ℕ → ℕ → List ℕ = λ word n. line (word ∷ decimal n ∷ []) in
    let summed : ℤ → List ℕ = λ z. line (codes "sum" ∷ signed_decimal z ∷ []) in
    let put : List ℕ = counted (codes "put") (over_calls call_put calls answers) in
    let got : List ℕ = counted (codes "got") (over_calls call_got calls answers) in
    let refused : List ℕ = counted (codes "refused") (sum (map (λ own. sum (map refusals own)) answers)) in
    let total : List ℕ = summed (fold (λ s own. fold (λ t a. t +ℤ sum_given a) s own) (pos 0) answers) in
    let one = c.in_ok-push_number_line.ensures ∙ ap (λ (n : ℕ). o ++ counted (codes "put") n) (rw (c.as_slice-calls.ensures, c.as_slice-answers.ensures) at c.in_ok-put.ensures) in
    let two = c.in_ok-push_number_line-2.ensures ∙ ap (λ (n : ℕ). c.push_number_line.new.out.items ++ counted (codes "got") n) (rw (c.as_slice-calls.ensures, c.as_slice-answers.ensures) at c.in_ok-got.ensures) in
    let three = c.in_ok-push_number_line-3.ensures ∙ ap (λ (n : ℕ). c.push_number_line-2.new.out.items ++ counted (codes "refused") n) (rw c.as_slice-answers.ensures at c.in_ok-all_refusals.ensures) in
    let fits : SFits w128 c.in_ok-sum_answers.field-0 = search rules in
    let told = to_z-of_z w128 c.in_ok-sum_answers.field-0 fits in
    let four = c.in_ok-push_sum.ensures ∙ ap (λ (z : ℤ). c.push_number_line-3.new.out.items ++ summed z) (told ∙ (rw c.as_slice-answers.ensures at c.in_ok-sum_answers.ensures)) in
    then_append o _ _ (put ++ got ++ refused) total (then_append o _ _ (put ++ got) refused (then_append o _ _ put got one two) three) four
