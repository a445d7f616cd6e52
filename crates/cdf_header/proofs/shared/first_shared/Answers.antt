use Rattle.cdf_header.proofs.Apart.{none_shares}
use Rattle.cdf_header.proofs.shared.first_shared.Goals as goal

pub first_pair-requires : goal.first_pair-requires
first_pair-requires c =
    let apart = rw (c.deref.ensures.value, c.deref-2.ensures.value) at c.first_crowded-start.ensures in
    none_shares c.first_crowded-start.result c.args.size c.args.spans.now c.in_ok-fixed.fixed.items c.in_ok-records.records.items c.requires apart c.in_ok-fixed.ensures c.in_ok-records.ensures
