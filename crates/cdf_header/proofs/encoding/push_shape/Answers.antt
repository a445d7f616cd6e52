use Rattle.cdf_header.proofs.Words.{on_ok_weaker, then_append}
use Rattle.cdf_header.proofs.encoding.push_shape.Goals as goal

pub returns : goal.returns
returns c = rw (← c.len.ensures, ← c.as_slice.ensures, ← c.as_slice-2.ensures, ← c.as_slice-3.ensures) (on_ok_weaker c.push_list.result
    (λ e. then_append _ _ _ _ _ (then_append _ _ _ _ _ (then_append _ _ _ _ _ c.in_ok-push_name.ensures c.in_ok-push_count.ensures) c.in_ok-push_each.ensures) e)
    c.push_list.ensures)
