-- The key of a slab is its old place.
use Rattle.redef_mover.proofs.Words.{rules, always_returns_same, Shift}
use Rattle.redef_mover.proofs.slabs.sort_by_place.Goals as goal

pub returns-clause-sorted : goal.returns-clause-sorted
returns-clause-sorted c = c.in_ok-sort_by_key.ensures.sorted (λ (s : Shift). s.from) (always_returns_same _ _ _ (λ a r h k. search rules))

pub returns-clause-stable : goal.returns-clause-stable
returns-clause-stable c = c.in_ok-sort_by_key.ensures.stable (λ (s : Shift). s.from) (always_returns_same _ _ _ (λ a r h k. search rules))
