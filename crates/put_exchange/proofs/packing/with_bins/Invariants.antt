-- The messages of the ranks so far.
use Rattle.put_exchange.proofs.Words.{◌≡◌, ◌++◌, length, map, filter, range_with_len, told_window, source_of, has_pieces, sent_by}
use Rattle.put_exchange.proofs.packing.with_bins.Given as goal

abbrev pub invariant-loop-cuts : goal.invariant-loop-cuts
invariant-loop-cuts l = record {
  all : l.yielded ++ l.cuts-iterator.rest.items ≡ l.fn.bins.items;
  many : l.rank ≡ length l.yielded;
  messages : l.messages.items ≡ filter has_pieces (map (λ r. sent_by (source_of l.job.batches) l.turn.entries.now (told_window l.turn.window) r) (range_with_len 0 l.rank));
}
