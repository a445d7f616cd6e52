-- The offer of one rank more.
use Rattle.reference.proofs.Words.{List, refl, arith, offers_of, all_arrived, Runner, append_assoc, drop_more, nat_tests}
use Rattle.reference.proofs.GatherLaws.{none_left}
use Rattle.reference.proofs.stand.held_offers.Goals as goal

pub loop-runner-preserved : goal.loop-runner-preserved
loop-runner-preserved c = grind (arith, nat_tests, append_assoc, drop_more, c.runner-item.is, c.in_ok-add_offer.ensures, c.loop-runner.invariant)

pub returns : goal.returns
returns c =
    none_left (λ (rs : List Runner). offers_of (all_arrived rs)) c.args.runners.now c.loop-runner.runner-index c.loop-runner.offers.items _ refl (omega arith) c.loop-runner.invariant
