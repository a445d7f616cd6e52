-- The buffer has the bytes of the entries so far.
use Rattle.put_exchange.proofs.Words.{◌≡◌, ◌+◌, length, take, map, write_cells, moved_down, cell_of, clips, source_of}
use Rattle.put_exchange.proofs.in_turn.lay_entries.Given as goal

abbrev pub invariant-loop-entry : goal.invariant-loop-entry
invariant-loop-entry l = record {
  laid : l.buf ≡ write_cells l.initial.buf (moved_down l.hull.at (clips l.hull.at (l.hull.at + l.hull.len) (map (λ o. cell_of (source_of l.batches) o) (take l.entry-index l.entries))));
  long : length l.buf ≡ length l.initial.buf;
}
