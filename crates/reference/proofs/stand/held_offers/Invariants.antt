-- The offers of the ranks so far, and those that are left, are all.
use Rattle.reference.proofs.Words.{◌≡◌, ◌++◌, drop, offers_of, all_arrived}
use Rattle.reference.proofs.stand.held_offers.Given as goal

abbrev pub invariant-loop-runner : goal.invariant-loop-runner
invariant-loop-runner l = l.offers.items ++ offers_of (all_arrived (drop l.runner-index l.runners)) ≡ offers_of (all_arrived l.runners)
