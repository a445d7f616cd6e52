-- One message more was laid.
use Rattle.put_exchange.proofs.Words.{◌-◌, arith, nat_tests}
use Rattle.put_exchange.proofs.TakenLaws.{laid_more}
use Rattle.put_exchange.proofs.laying.take_messages.Goals as goal

pub messages-preserved : goal.messages-preserved
messages-preserved g c =
    let some = c.messages-test.true in
    grind (arith, nat_tests, laid_more, c.messages.invariant.some, c.take-message.ensures.of, c.messages.invariant.of, c.messages.invariant.laid, c.lay.ensures.laid, c.lay.ensures.long, c.messages.invariant.long)
