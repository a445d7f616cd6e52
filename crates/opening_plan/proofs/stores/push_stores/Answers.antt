-- Each window is one store more.
use Rattle.opening_plan.proofs.Words.{◌-◌, min, arith, count_is, nat_tests}
use Rattle.opening_plan.proofs.CallLaws.{calls_more, one_stored}
use Rattle.opening_plan.proofs.stores.push_stores.Goals as goal

pub loop-number-preserved : goal.loop-number-preserved
loop-number-preserved c =
    let x = c.args.at in
    grind (arith, nat_tests, calls_more c.args.calls.now.items c.loop-number.calls.items c.push.new.self.items, one_stored c.args.window x c.args.len c.loop-number.number, c.loop-number.invariant, c.min.ensures)

pub returns : goal.returns
returns c = grind (arith, nat_tests, count_is, c.loop-number.invariant, c.div_ceil-number-end.ensures)
