use Rattle.request_queue.proofs.Words.{◌≡◌, ◌+◌, length, sum_by, IsStrictlySortedBy, nat_cmp, values_of, Request, posts_of}
use Rattle.request_queue.proofs.PlaceLaws.{at_keys}
use Rattle.request_queue.proofs.requests.room_for.Given as goal

abbrev pub invariant-loop-place : goal.invariant-loop-place
invariant-loop-place l = record {
  count : l.count + sum_by (λ (r : Request). length (posts_of l.direction r)) (values_of (at_keys l.place-iterator l.by_place.entries))
      ≡ sum_by (λ (r : Request). length (posts_of l.direction r)) (values_of (at_keys l.listed.keys l.by_place.entries));
  sorted : IsStrictlySortedBy nat_cmp l.place-iterator;
}
