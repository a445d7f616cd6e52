-- Each rank comes with the call after those that it has answered.
use Rattle.run_plan.proofs.Words.{ℕ, ◌∷◌, [], ◌++◌, ◌∙◌, ap, length, arith, Runner, get_at, caller}
use Rattle.run_plan.proofs.CallerLaws.{one_more}
use Rattle.run_plan.proofs.steps.callers_of.Goals as goal

pub overflow_cast-len : goal.overflow_cast-len
overflow_cast-len c =
    let few = c.requires.answers c.loop-rank.rank _ (get_at c.args.runners.now c.loop-rank.rank c.index-runners-rank.result c.loop-rank-test.true) in
    let own = ap (λ (runner : Runner). length runner.answers) c.index-runners-rank.is in
    let len = c.len.ensures in
    omega arith

pub loop-rank-preserved : goal.loop-rank-preserved
loop-rank-preserved c =
    one_more c.args.runners.now c.loop-rank.rank c.index-runners-rank.result c.loop-rank.callers c.push.new.self _ c.loop-rank-test.true c.index-runners-rank.is
    (c.in_ok-push.ensures.ok ∙ ap (λ (n : ℕ). c.loop-rank.callers ++ caller c.loop-rank.rank n ∷ []) c.len.ensures) c.loop-rank.invariant
