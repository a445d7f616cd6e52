-- One call more.
use Rattle.plan_sums.proofs.Words.{◌∙◌, ap, List, take, sym, take_more, DiskCall, Grow, counted}
use Rattle.plan_sums.proofs.calls.count.Goals as goal

pub loop-call-init : goal.loop-call-init
loop-call-init c = c.none-counted.ensures c.args.unit

pub loop-call-preserved : goal.loop-call-preserved
loop-call-preserved c =
    c.with-counted.ensures (take c.loop-call.call-index c.args.calls.now) c.loop-call.invariant
    ∙ ap (λ (calls : List DiskCall). counted c.args.unit calls) (sym (take_more c.args.calls.now c.loop-call.call-index (Grow 0) c.loop-call-test.true))
