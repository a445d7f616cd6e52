-- The cuts so far were laid.
use Rattle.put_exchange.proofs.Words.{◌≡◌, length, take, write_cells, moved_down, cells_of}
use Rattle.put_exchange.proofs.message.lay_cuts.Given as goal

abbrev pub invariant-loop-cut : goal.invariant-loop-cut
invariant-loop-cut l = record {
  laid : l.buf ≡ write_cells l.initial.buf (moved_down l.hull.at (cells_of l.puts (take l.cut-index l.cuts)));
  long : length l.buf ≡ length l.initial.buf;
}
