use Rattle.rank_core.proofs.Words.{map, rules, is_lt, always_returns_same, place_cmp}
use Rattle.rank_core.proofs.NameLaws.{place_ranks}
use Rattle.rank_core.proofs.names.sort_places.Goals as goal

pub returns-clause-sorted : goal.returns-clause-sorted
returns-clause-sorted g c =
    let names = map g.T.Named.name_of c.args.items.now in
    c.sort_unstable_by.ensures.sorted (λ a b. is_lt (place_cmp names a b)) (place_ranks names) (always_returns_same _ _ _ (λ a r h k. search rules))
