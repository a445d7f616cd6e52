-- The buffer has the bytes of the entries so far.
use Rattle.data_sieving.proofs.Words.{◌≡◌, ◌+◌, length, take, map, write_cells, source_of, laid_cell}
use Rattle.data_sieving.proofs.put.lay_all.Given as goal

abbrev pub invariant-loop-entry : goal.invariant-loop-entry
invariant-loop-entry l = record {
  laid : l.buf ≡ write_cells l.initial.buf (map (λ o. laid_cell (source_of l.puts) l.hull.at (l.hull.at + l.hull.len) o) (take l.entry-index l.entries));
  long : length l.buf ≡ length l.initial.buf;
}
