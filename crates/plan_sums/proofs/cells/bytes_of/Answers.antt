-- The bytes of one share more.
use Rattle.plan_sums.proofs.Words.{◌∙◌, ap, get_or, sym, take, List, take_more, Share, bytes_of}
use Rattle.plan_sums.proofs.CellLaws.{share_more}
use Rattle.plan_sums.proofs.cells.bytes_of.Goals as goal

abbrev none : Share
none = record { rank = 0; bytes = 0 }

pub loop-share-preserved : goal.loop-share-preserved
loop-share-preserved c =
    let shares = c.args.shares.now in
    let i = c.loop-share.share-index in
    share_more c.args.rank (take i shares) (get_or shares i none) c.loop-share.bytes c.own_bytes.result c.saturating_add-bytes.result c.loop-share.invariant c.own_bytes.ensures
    c.saturating_add-bytes.ensures
    ∙ ap (λ (ss : List Share). bytes_of c.args.rank ss) (sym (take_more shares i none c.loop-share-test.true))
