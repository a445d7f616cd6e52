-- What one rank more asks for.
use Rattle.plan_sums.proofs.Words.{◌++◌, ◌∙◌, ap, get_or, take, List, Asked, naive_sum}
use Rattle.plan_sums.proofs.AskedLaws.{asked_more}
use Rattle.plan_sums.proofs.ListLaws.{taken_more}
use Rattle.plan_sums.proofs.naive.Naive.with.Goals as goal

abbrev none : Asked
none = record { rank = 0; bytes = 0; pieces = 0 }

pub loop-one-preserved : goal.loop-one-preserved
loop-one-preserved c = λ before is.
    let asked = c.args.asked.now in
    let i = c.loop-one.one-index in
    asked_more (before ++ take i asked) (get_or asked i none) c.loop-one.naive c.saturating_add.result c.saturating_add-in-loop-one.result (c.loop-one.invariant before is)
    c.saturating_add.ensures c.saturating_add-in-loop-one.ensures
    ∙ ap (λ (all : List Asked). naive_sum all) (taken_more before asked i none c.loop-one-test.true)
