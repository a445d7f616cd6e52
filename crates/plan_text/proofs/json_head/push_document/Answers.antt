use Rattle.plan_text.proofs.Cited.{ℕ, List, ◌∷◌, ◌++◌, ap, ◌∙◌, arith, head_members, plan_members}
use Rattle.plan_text.proofs.ArrayLaws.{document_closed}
use Rattle.plan_text.proofs.LineLaws.{joined_three}
use Rattle.plan_text.proofs.json_head.push_document.Goals as goal

pub returns : goal.returns
returns c =
    let d = c.args.document.now in
    let closed = document_closed (head_members d.script.now d.header.now d.length d.plan.now.steps) (plan_members d.script.now d.plan.now d.sums.now) (omega arith) (omega arith) in
    joined_three _ _ _ _ c.in_ok-push_head.ensures c.in_ok-push_plan.ensures c.in_ok-push_bytes.ensures ∙ ap (λ (t : List ℕ). c.args.out.now.items ++ 123 ∷ t) closed
