-- The count so far.
use Rattle.reference.proofs.Words.{◌≡◌, map, max, drop, known_by, greatest}
use Rattle.reference.proofs.meetings.known_of.Given as goal

abbrev pub invariant-loop-offer : goal.invariant-loop-offer
invariant-loop-offer l = max l.known (greatest (map (λ o. known_by o.kind o.known) (drop l.offer-index l.offers))) ≡ greatest (map (λ o. known_by o.kind o.known) l.offers)
