use Rattle.plan_text.proofs.Cited.{List, ℕ, [], ◌∷◌, ◌++◌, ap, ◌∙◌, codes, then_append, shown_value, row_of}
use Rattle.plan_text.proofs.LineLaws.{five_words}
use Rattle.plan_text.proofs.head.push_hint.Goals as goal

pub returns : goal.returns
returns c =
    let o : List ℕ = c.args.out.now.items in
    let row = row_of c.args.name in
    let script = c.args.script.now in
    let hint : List ℕ = codes "hint" in
    let word : List ℕ = 32 ∷ row.word in
    let value : List ℕ = 32 ∷ shown_value row.form (row.seen script.hints) in
    let title : List ℕ = codes " default" in
    let default : List ℕ = 32 ∷ shown_value row.form (row.default script.ranks) in
    let second = rw c.word.ensures at c.in_ok-push_word.ensures in
    let third = rw c.form.ensures.form at (rw c.get.ensures at c.in_ok-push_value.ensures) in
    let fifth = rw c.form-2.ensures.form at (rw (c.from.ensures, c.default.ensures) at c.in_ok-push_value-2.ensures) in
    let front = then_append o _ _ hint word c.in_ok-push_bytes.ensures second in
    let shown = then_append o _ _ (hint ++ word) value front third in
    let titled = then_append o _ _ (hint ++ word ++ value) title shown c.in_ok-push_bytes-2.ensures in
    let whole = then_append o _ _ (hint ++ word ++ value ++ title) default titled fifth in
    then_append o _ _ (hint ++ word ++ value ++ title ++ default) (10 ∷ []) whole c.in_ok-push.ensures.items
    ∙ ap (λ (t : List ℕ). o ++ (t ++ 10 ∷ [])) (five_words hint word value title default)
