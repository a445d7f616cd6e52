use Rattle.cdf_header.proofs.Words.{◌<◌, length}
use Rattle.cdf_header.proofs.Spanned.{spans_next}
use Rattle.cdf_header.proofs.places.spans_of.Goals as goal

pub loop-number-preserved : goal.loop-number-preserved
loop-number-preserved c =
    let below : c.loop-number.number < length c.args.header.now.vars = rw (← c.as_slice-var-items.ensures) c.loop-number-test.true in
    spans_next c.args.header.now c.args.header.now.vars c.loop-number.number c.var-item.result _ _ _ _ below (rw c.as_slice-var-items.ensures at c.var-item.is)
    c.span_of.ensures c.in_ok-push.ensures.items c.loop-number.invariant
