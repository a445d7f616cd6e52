use Rattle.request_queue.proofs.Words.{◌≡◌, ◌+◌, ◌≤◌, length, vec_len, sum_by, flat_map, vec_capacity, into_iter_items, puts_of, gets_of}
use Rattle.request_queue.proofs.taken.batch_of.Given as goal

abbrev pub invariant-loop-request : goal.invariant-loop-request
invariant-loop-request l = record {
  puts : l.puts.items ≡ flat_map puts_of l.yielded;
  gets : l.gets.items ≡ flat_map gets_of l.yielded;
  puts_room : vec_len l.puts + sum_by (λ r. length (puts_of r)) (into_iter_items l.request-iterator) ≤ vec_capacity l.puts;
  gets_room : vec_len l.gets + sum_by (λ r. length (gets_of r)) (into_iter_items l.request-iterator) ≤ vec_capacity l.gets;
}
