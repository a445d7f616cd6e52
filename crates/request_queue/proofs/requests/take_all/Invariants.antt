use Rattle.request_queue.proofs.Words.{◌≡◌, ◌+◌, ◌≤◌, ◌++◌, length, vec_len, vec_capacity, IsStrictlySortedBy, nat_cmp, values_of, IsOrdered, IsIndex}
use Rattle.request_queue.proofs.PlaceLaws.{at_keys, at_others}
use Rattle.request_queue.proofs.requests.take_all.Given as goal

abbrev pub invariant-loop-place : goal.invariant-loop-place
invariant-loop-place l = record {
  sorted : IsStrictlySortedBy nat_cmp l.place-iterator;
  taken : l.taken.items ++ values_of (at_keys l.place-iterator l.by_place.entries) ≡ l.initial.taken.items ++ values_of (at_keys l.listed.keys l.initial.by_place.entries);
  left : at_others l.place-iterator l.by_place.entries ≡ at_others l.listed.keys l.initial.by_place.entries;
  ordered : IsOrdered nat_cmp l.by_place;
  index : IsIndex l.places l.by_place;
  room : vec_len l.taken + length l.place-iterator ≤ vec_capacity l.taken;
}
