-- Each number of one more.
use Rattle.plan_sums.proofs.TallyLaws.{tally_more}
use Rattle.plan_sums.proofs.tally.Tally.with.Goals as goal

pub returns : goal.returns
returns c = λ before is.
    tally_more c.args.unit before c.args.extent c.args.self c.saturating_add-calls.result c.saturating_add-bytes.result c.least_with-least.result c.max-most.result c.strays-one.result
    c.saturating_add-unaligned.result is c.saturating_add-calls.ensures c.saturating_add-bytes.ensures c.least_with-least.ensures.first c.least_with-least.ensures.later c.max-most.ensures
    c.strays-one.ensures c.saturating_add-unaligned.ensures
