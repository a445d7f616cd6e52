use Rattle.request_queue.proofs.Words.{◌≡◌, ℕ, take, list_any, nat_cmp, contains, stands_at}
use Rattle.request_queue.proofs.requests.places_of.Given as goal

abbrev pub invariant-loop-id : goal.invariant-loop-id
invariant-loop-id l = (place : ℕ) → contains nat_cmp l.listed place ≡ list_any (stands_at l.places place) (take l.id-index l.ids)
