-- The blobs have the bytes of the entries so far.
use Rattle.get_exchange.proofs.Words.{◌≡◌, ℕ, ◌+◌, take, map, write_cells, buffer_cell, blob_at, of_request, AreAsLong}
use Rattle.get_exchange.proofs.collecting.collect_all.Given as goal

abbrev pub invariant-loop-entry : goal.invariant-loop-entry
invariant-loop-entry l = record {
  each : (r s : ℕ) → blob_at l.table r s ≡ write_cells (blob_at l.initial.table r s) (map (λ o. buffer_cell l.hull.at (l.hull.at + l.hull.len) l.buf o) (of_request r s (take l.entry-index l.entries)));
  long : AreAsLong l.initial.table l.table;
}
