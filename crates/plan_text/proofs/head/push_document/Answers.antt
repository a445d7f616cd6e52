use Rattle.plan_text.proofs.Cited.{List, ℕ, ◌++◌, codes, flat_map, then_append, text_line, count_call, head_lines, sum_lines, device_lines, step_lines}
use Rattle.plan_text.proofs.LineLaws.{then_words}
use Rattle.plan_text.proofs.head.push_document.Goals as goal

pub returns : goal.returns
returns c =
    let document = c.args.document.now in
    let script = document.script.now in
    let plan = document.plan.now in
    let o : List ℕ = c.args.out.now.items in
    let head : List ℕ = head_lines script document.header.now document.length plan.steps in
    let opening : List ℕ = head ++ text_line (codes "opening") ++ device_lines (codes "  ") plan.opening in
    let steps : List ℕ = opening ++ flat_map (step_lines script.calls plan.answers) plan.steps in
    let close : List ℕ = steps ++ text_line (codes "close") ++ device_lines (codes "  ") (count_call plan.close) in
    let sums : List ℕ = sum_lines document.sums.now in
    let second = rw c.as_slice.ensures at c.in_ok-push_opening.ensures in
    let opened = then_words o _ _ head (text_line (codes "opening")) (device_lines (codes "  ") plan.opening) c.in_ok-push_head.ensures second in
    let stepped = then_append o _ _ opening (flat_map (step_lines script.calls plan.answers) plan.steps) opened c.in_ok-push_steps.ensures in
    let closed = then_words o _ _ steps (text_line (codes "close")) (device_lines (codes "  ") (count_call plan.close)) stepped c.in_ok-push_close.ensures in
    then_append o _ _ close sums closed c.in_ok-push_sums.ensures
