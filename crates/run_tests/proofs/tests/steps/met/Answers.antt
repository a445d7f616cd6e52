-- Both offers are right.
use Rattle.std.proofs.Common.{◌∙◌}
use Rattle.run_tests.proofs.TwoOffers.{two_right}
use Rattle.run_tests.proofs.tests.steps.met.Goals as goal

pub meeting-answered-requires-clause-right : goal.meeting-answered-requires-clause-right
meeting-answered-requires-clause-right g c =
    two_right c.args.header.now c.args.a c.args.b c.in_ok-offer_of.field-0 c.in_ok-offer_of-2.field-0 c.as_slice.result.now
    (c.as_slice.ensures.value ∙ c.in_ok-offers.ensures.items) c.in_ok-offer_of.ensures c.in_ok-offer_of-2.ensures c.is_put.ensures c.is_put-2.ensures
