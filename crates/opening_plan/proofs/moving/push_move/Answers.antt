-- Each window goes on where the one above it ended.
use Rattle.opening_plan.proofs.Words.{arith, slab_of, all_called, window_called, nat_tests}
use Rattle.opening_plan.proofs.CallLaws.{calls_more}
use Rattle.opening_plan.proofs.moving.push_move.Goals as goal

pub loop-number-preserved : goal.loop-number-preserved
loop-number-preserved c =
    let s = slab_of c.args.slab.now in
    grind (arith, nat_tests, calls_more c.args.calls.now.items c.loop-number.calls.items c.push_window.new.calls.items, window_called c.args.window c.loop-number.number s, c.window.ensures, c.loop-number.invariant, c.in_ok-push_window.ensures)

pub returns : goal.returns
returns c = grind (arith, nat_tests, all_called, c.loop-number.invariant, c.requires.some, c.div_ceil-number-end.ensures)
