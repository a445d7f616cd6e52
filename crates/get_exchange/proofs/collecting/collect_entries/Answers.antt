-- Those carried, and then those behind them.
use Rattle.get_exchange.proofs.Words.{◌+◌, in_left, in_right, extents_left, extents_right, arith, nat_tests}
use Rattle.get_exchange.proofs.CollectLaws.{collected_joined, fit_as_long}
use Rattle.get_exchange.proofs.collecting.collect_entries.Goals as goal

pub collect_all-requires-clause-can : goal.collect_all-requires-clause-can
collect_all-requires-clause-can c =
    let can = c.requires.can in
    grind (arith, nat_tests, extents_left c.args.turn.now.carried.now c.args.turn.now.fresh.now, in_left c.args.turn.now.carried.now c.args.turn.now.fresh.now)

pub collect_all-requires-2-clause-can : goal.collect_all-requires-2-clause-can
collect_all-requires-2-clause-can c =
    let can = c.requires.can in
    grind (arith, nat_tests, extents_right c.args.turn.now.carried.now c.args.turn.now.fresh.now, in_right c.args.turn.now.carried.now c.args.turn.now.fresh.now, fit_as_long c.args.table.now c.collect_all.new.table c.args.turn.now.fresh.now c.collect_all.ensures.long)

pub returns-clause-each : goal.returns-clause-each
returns-clause-each c =
    let t = c.args.turn.now in
    collected_joined t.window.hull.at (t.window.hull.at + t.window.hull.len) c.args.buf.now t.carried.now t.fresh.now c.args.table.now c.collect_all.new.table c.collect_all-2.new.table
    c.collect_all.ensures.each c.collect_all-2.ensures.each
