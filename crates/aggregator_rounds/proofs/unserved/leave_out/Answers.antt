-- No end is too large for a word, so that the test is that of the ends.
use Rattle.aggregator_rounds.proofs.Words.{rules, ◌∙◌, ◌+◌, nat_lt, filter_same, min}
use Rattle.aggregator_rounds.proofs.PastSteps.{filter_ends}
use Rattle.aggregator_rounds.proofs.unserved.leave_out.Goals as goal

pub returns : goal.returns
returns c =
    filter_same _ (λ o. nat_lt c.args.stop (min (o.extent.at + o.extent.len) 18446744073709551615)) _ (λ x b f' k. search rules) _ _ c.retain.ensures.filtered
    ∙ filter_ends c.args.stop c.args.carried.now.items c.requires.ends
