-- The blobs have the bytes of the entries so far.
use Rattle.data_sieving.proofs.Words.{◌≡◌, ℕ, ◌+◌, take, map, write_cells, of_slot, AreAsLong, blob_at, buffer_cell}
use Rattle.data_sieving.proofs.get.collect_all.Given as goal

abbrev pub invariant-loop-entry : goal.invariant-loop-entry
invariant-loop-entry l = record {
  each : (k : ℕ) → blob_at l.blobs k ≡ write_cells (blob_at l.initial.blobs k) (map (λ o. buffer_cell l.hull.at (l.hull.at + l.hull.len) l.buf o) (of_slot k (take l.entry-index l.entries)));
  long : AreAsLong l.initial.blobs l.blobs;
}
