-- A variable more is filled.
use Rattle.opening_plan.proofs.Words.{arith, take_all, known_at, fill_stores_more, nat_tests}
use Rattle.opening_plan.proofs.CallLaws.{calls_more}
use Rattle.opening_plan.proofs.fills.push_fills.Goals as goal

pub loop-number-preserved : goal.loop-number-preserved
loop-number-preserved c =
    let header = c.args.header.now in
    grind (arith, nat_tests, known_at, calls_more c.args.calls.now.items c.loop-number.calls.items c.push_fill.new.calls.items, fill_stores_more c.args.window header c.loop-number.number, c.in_ok-push_fill.ensures, c.loop-number.invariant)

pub returns : goal.returns
returns c = grind (arith, nat_tests, take_all, c.loop-number.invariant)
