-- One for each rank so far.
use Rattle.put_exchange.proofs.Words.{◌≡◌, ◌-◌, ◌≤◌, [], length, map, vec_capacity, range_with_len, binned}
use Rattle.put_exchange.proofs.packing.empty_bins.Given as goal

abbrev pub invariant-ranks : goal.invariant-ranks
invariant-ranks l = record {
  each : binned l.bins.items ≡ map (λ _. []) (range_with_len 0 (length l.bins.items));
  few : length l.bins.items ≤ l.ranks;
  room : l.ranks ≤ vec_capacity l.bins;
}

abbrev pub decreases-ranks : goal.decreases-ranks
decreases-ranks l = l.ranks - length l.bins.items
