use Rattle.vara_extents.proofs.Words.{rules, always_returns_same}
use Rattle.vara_extents.proofs.SweepLaws.{by_start, start_ranks, starts_before}
use Rattle.vara_extents.proofs.boxes.sort_by_start.Goals as goal

pub returns-clause-in_order : goal.returns-clause-in_order
returns-clause-in_order c =
    by_start c.args.axis c.sort_unstable_by.new.self
    (c.sort_unstable_by.ensures.sorted (starts_before c.args.axis) (start_ranks c.args.axis) (always_returns_same _ _ _ (λ a r h k. search rules)))
