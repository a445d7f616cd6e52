use Rattle.cdf_header.proofs.Words.{◌≡◌, arith, on_ok_weaker, then_append, vsize}
use Rattle.cdf_header.proofs.encoding.VarWritten.push.Goals as goal

pub returns : goal.returns
returns c =
    let small = c.requires.small in
    let size : c.vsize_of.result ≡ vsize c.args.header.now c.args.self.now = omega (arith, c.vsize_of.ensures) in
    rw (← c.number_of.ensures, ← size) (on_ok_weaker c.push_begin.result
    (λ e. then_append _ _ _ _ _ (then_append _ _ _ _ _ (then_append _ _ _ _ _ c.in_ok-push_shape.ensures c.in_ok-push_tag.ensures) c.in_ok-push_count.ensures) e)
    c.push_begin.ensures)
