-- Those that were carried are laid first, and then those behind them.
use Rattle.data_sieving.proofs.Words.{◌+◌, in_left, in_right, source_of, extents_left, extents_right}
use Rattle.data_sieving.proofs.ReachSteps.{found_left, found_right}
use Rattle.data_sieving.proofs.PutSteps.{laid_twice}
use Rattle.data_sieving.proofs.put.lay_window.Goals as goal

pub lay_all-requires-clause-ends : goal.lay_all-requires-clause-ends
lay_all-requires-clause-ends c = λ e m. c.requires.ends e (extents_left c.args.next.now.carried.now c.args.next.now.fresh.now e m)

pub lay_all-requires-clause-filled : goal.lay_all-requires-clause-filled
lay_all-requires-clause-filled c = λ o m. c.requires.filled o (in_left c.args.next.now.carried.now c.args.next.now.fresh.now o m)

pub lay_all-requires-clause-found : goal.lay_all-requires-clause-found
lay_all-requires-clause-found c = found_left (source_of c.args.puts.now) c.args.next.now.carried.now c.args.next.now.fresh.now c.requires.found

pub lay_all-requires-2-clause-ends : goal.lay_all-requires-2-clause-ends
lay_all-requires-2-clause-ends c = λ e m. c.requires.ends e (extents_right c.args.next.now.carried.now c.args.next.now.fresh.now e m)

pub lay_all-requires-2-clause-filled : goal.lay_all-requires-2-clause-filled
lay_all-requires-2-clause-filled c = λ o m. c.requires.filled o (in_right c.args.next.now.carried.now c.args.next.now.fresh.now o m)

pub lay_all-requires-2-clause-found : goal.lay_all-requires-2-clause-found
lay_all-requires-2-clause-found c = found_right (source_of c.args.puts.now) c.args.next.now.carried.now c.args.next.now.fresh.now c.requires.found

pub returns : goal.returns
returns c =
    laid_twice (source_of c.args.puts.now) c.args.next.now.window.hull.at (c.args.next.now.window.hull.at + c.args.next.now.window.hull.len)
    c.args.next.now.carried.now c.args.next.now.fresh.now c.args.buf.now c.lay_all.new.buf c.lay_all-2.new.buf c.lay_all.ensures c.lay_all-2.ensures
