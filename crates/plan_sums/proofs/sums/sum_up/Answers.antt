-- All calls are the opening's, the steps' and the close's; the ranks' alone are the steps'.
use Rattle.plan_sums.proofs.Words.{◌++◌, ◌∙◌, ap, List, append_assoc, Put, Get, DiskCall, count_call, StepPlan, calls_in, cells_in, asked_in, naive_sum, counted}
use Rattle.plan_sums.proofs.SumLaws.{summed}
use Rattle.plan_sums.proofs.sums.sum_up.Goals as goal

pub returns : goal.returns
returns c =
    let plan = c.args.plan.now in
    let unit = c.args.striping_unit in
    let steps = c.as_slice-steps.ensures in
    let own = c.in_ok-in_steps.ensures ∙ ap (λ (ss : List StepPlan). calls_in ss) steps in
    let whole = c.in_ok-calls.ensures ∙ ap (λ (calls : List DiskCall). plan.opening ++ calls ++ count_call plan.close) (c.deref.ensures.value ∙ own)
    ∙ append_assoc plan.opening (calls_in plan.steps) (count_call plan.close) in
    summed plan unit c.args.ranks c.args.nodes c.count-all.result c.count-moved.result c.naive_of-naive_reads.result c.naive_of-naive_writes.result c.saturating_sub-read_over.result
    c.saturating_sub-written_over.result c.in_ok-matrix.matrix
    (c.count-all.ensures ∙ ap (λ (calls : List DiskCall). counted unit calls) (c.deref-2.ensures.value ∙ whole))
    (c.count-moved.ensures ∙ ap (λ (calls : List DiskCall). counted unit calls) (c.deref-3.ensures.value ∙ own))
    (c.naive_of-naive_reads.ensures ∙ ap (λ (ss : List StepPlan). naive_sum (asked_in Get ss)) steps)
    (c.naive_of-naive_writes.ensures ∙ ap (λ (ss : List StepPlan). naive_sum (asked_in Put ss)) steps)
    c.saturating_sub-read_over.ensures c.saturating_sub-written_over.ensures
    (c.in_ok-matrix.ensures ∙ ap (λ (ss : List StepPlan). cells_in ss c.args.ranks c.args.nodes) steps)
