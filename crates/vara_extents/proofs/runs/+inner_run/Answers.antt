-- An outer dimension keeps the runs of the inner ones, or makes one run of them.
use Rattle.vara_extents.proofs.Words.{◌≡◌, ◌⊎◌, get_or, arith, nat_tests}
use Rattle.vara_extents.proofs.RowSteps.{inner_kept, inner_merged}
use Rattle.vara_extents.proofs.runs.+inner_run.Goals as goal

pub returns-then-stride-eq1-clause-runs : goal.returns-then-stride-eq1-clause-runs
returns-then-stride-eq1-clause-runs t c =
    let one : (get_or c.args.counts.now 0 0 ≡ 1) ⊎ (get_or c.args.strides.now 0 0 ≡ 1) =
    grind (arith, nat_tests, c.if-stride-eq1.true) in
    inner_merged c.args.header.now c.args.ids.now c.args.counts.now c.args.strides.now c.inner_run-inner.result.elements c.in-len1-up.len_at_least c.in-len1-up-counts.len_at_least
    c.in-len1-up-strides.len_at_least c.requires.some c.inner_run-inner.ensures.runs (c.inner_run-inner.ensures.whole c.if-inner.true) one

pub returns-else-inner-clause-runs : goal.returns-else-inner-clause-runs
returns-else-inner-clause-runs t c =
    inner_kept c.args.header.now c.args.ids.now c.args.counts.now c.args.strides.now c.inner_run-inner.result.elements c.in-len1-up.len_at_least c.in-len1-up-counts.len_at_least
    c.in-len1-up-strides.len_at_least c.inner_run-inner.ensures.runs
