-- The cuts of the entries so far are in the lists.
use Rattle.put_exchange.proofs.Words.{◌≡◌, length, map, take, range_with_len, told_window, binned, cuts_by}
use Rattle.put_exchange.proofs.packing.fill_bins.Given as goal

abbrev pub invariant-loop-entry : goal.invariant-loop-entry
invariant-loop-entry l = record {
  binned : binned l.bins ≡ map (λ r. cuts_by (told_window l.turn.window) (take l.entry-index l.turn.entries.now) r) (range_with_len 0 (length l.initial.bins));
}
