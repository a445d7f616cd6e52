-- One offer more.
use Rattle.reference.proofs.Words.{Offer, known_by, arith, nat_tests}
use Rattle.reference.proofs.GatherLaws.{greatest_end, greatest_step}
use Rattle.reference.proofs.meetings.known_of.Goals as goal

pub loop-offer-preserved : goal.loop-offer-preserved
loop-offer-preserved c =
    grind (arith, nat_tests, greatest_step, c.loop-offer-test.true, c.offer-item.is, c.known_by.ensures, c.max-known.ensures, c.loop-offer.invariant)

pub returns : goal.returns
returns c = greatest_end (λ (o : Offer). known_by o.kind o.known) c.args.offers.now c.loop-offer.offer-index c.loop-offer.known _ c.loop-offer-test.false c.loop-offer.invariant
