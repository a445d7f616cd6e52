-- One reply more.
use Rattle.reference.proofs.Words.{List, refl, ◌∙◌, map, read_in, Offer, reply_to, arith, nat_tests, append_assoc}
use Rattle.reference.proofs.GatherLaws.{none_left, next_left}
use Rattle.reference.proofs.meetings.replies.Goals as goal

pub get_all-requires-clause-accepted : goal.get_all-requires-clause-accepted
get_all-requires-clause-accepted c = grind (arith, nat_tests, read_in, c.requires.right, c.as_slice.ensures)

pub loop-offer-preserved : goal.loop-offer-preserved
loop-offer-preserved c =
    grind (arith, nat_tests, next_left, append_assoc, c.loop-offer-test.true, c.offer-item.is, c.in_ok-got.ensures, c.as_slice.ensures, c.loop-offer.invariant)

pub returns : goal.returns
returns c = λ s same.
    c.from_vec.ensures
    ∙ none_left (λ (os : List Offer). map (reply_to s c.args.pair c.args.records c.args.file.now) os) c.args.offers.now c.loop-offer.offer-index c.loop-offer.all.items _ refl
    c.loop-offer-test.false (c.loop-offer.invariant s same)
