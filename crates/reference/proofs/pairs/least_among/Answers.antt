-- One byte more.
use Rattle.reference.proofs.Words.{refl, is_shared}
use Rattle.reference.proofs.PairSteps.{least_step}
use Rattle.reference.proofs.pairs.least_among.Goals as goal

pub loop-byte-preserved : goal.loop-byte-preserved
loop-byte-preserved c =
    least_step (is_shared c.args.held.now) c.args.bytes.now c.loop-byte.byte-index _ c.in_ok-shared.shared c.loop-byte.least _ _ c.loop-byte-test.true refl
    c.in_ok-shared.ensures c.with_byte-least.ensures c.loop-byte.invariant
