-- One rank more.
use Rattle.reference.proofs.Words.{arith, nat_tests}
use Rattle.reference.proofs.FirstLaws.{first_more, own_there, ready_first}
use Rattle.reference.proofs.stand.first_runners.Goals as goal

pub new-requires-clause-ready : goal.new-requires-clause-ready
new-requires-clause-ready c =
    ready_first c.args.script.now c.args.header.now c.loop-own.own-index c.as_slice.result.now c.requires.lawful
    (own_there _ _ c.loop-own.own-index _ _ c.as_slice-own-items.ensures c.loop-own-test.true c.own-item.is c.as_slice.ensures)

pub loop-own-preserved : goal.loop-own-preserved
loop-own-preserved c =
    first_more c.args.script.now c.args.header.now c.loop-own.own-index c.loop-own.runners.items c.push.new.self.items c.as_slice.result.now c.in_ok-runner.runner c.requires.sound
    c.requires.lawful (own_there _ _ c.loop-own.own-index _ _ c.as_slice-own-items.ensures c.loop-own-test.true c.own-item.is c.as_slice.ensures)
    c.in_ok-runner.ensures.header c.in_ok-runner.ensures.gone c.in_ok-push.ensures.items c.loop-own.invariant

pub returns : goal.returns
returns c = grind (arith, nat_tests, c.as_slice-own-items.ensures, c.loop-own-test.false, c.loop-own.auto.own-index-end, c.loop-own.invariant)
