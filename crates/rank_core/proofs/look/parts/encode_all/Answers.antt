use Rattle.rank_core.proofs.Words.{◌+◌, refl, arith, nat_tests}
use Rattle.rank_core.proofs.ValueLaws.{one_unfit, still_fit, unfit_more, values_more}
use Rattle.rank_core.proofs.look.parts.encode_all.Goals as goal

pub loop-number-preserved : goal.loop-number-preserved
loop-number-preserved c =
    let values = c.args.values.now in
    grind (arith, nat_tests, values_more, still_fit, unfit_more, c.in_ok-push_value.ensures.ok, c.loop-number.invariant.bytes, c.loop-number.invariant.fit, c.in_ok-push_value.ensures.right)

pub returns-in_err-push_value-clause-refused : goal.returns-in_err-push_value-clause-refused
returns-in_err-push_value-clause-refused c =
    let why = one_unfit c.args.kind c.args.values.now c.args.before c.loop-number.number (c.args.before + c.loop-number.number) c.args.count c.in_err-push_value.field-0.0
    c.loop-number-test.true refl c.in_err-push_value.ensures.refused in
    grind (arith, nat_tests, c.from_residual-in_err-push_value.ensures.1)
