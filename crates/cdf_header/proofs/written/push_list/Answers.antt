use Rattle.cdf_header.proofs.Words.{on_ok_weaker}
use Rattle.cdf_header.proofs.Writing.{list_written}
use Rattle.cdf_header.proofs.written.push_list.Goals as goal

pub returns : goal.returns
returns g c =
    on_ok_weaker c.push_each.result
    (λ e. list_written _ c.args.number _ c.args.entries.now _ _ _ c.in_ok-push_list_head.ensures e)
    c.push_each.ensures
