-- The ranks so far have gone up to their first offers.
use Rattle.reference.specs.Stands.{AreFirst}
use Rattle.reference.proofs.stand.first_runners.Given as goal

abbrev pub invariant-loop-own : goal.invariant-loop-own
invariant-loop-own l = AreFirst l.script l.header l.own-index l.runners.items
