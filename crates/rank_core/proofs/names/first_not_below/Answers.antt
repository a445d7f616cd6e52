use Rattle.rank_core.proofs.Words.{map, IsPartitionPoint-from_clause, is_below}
use Rattle.rank_core.proofs.NameLaws.{partitioned}
use Rattle.rank_core.proofs.names.first_not_below.Goals as goal

pub returns : goal.returns
returns g c =
    let names = map g.T.Named.name_of c.args.items.now in
    let places = c.args.places.now in
    let name = c.args.name.now in
    IsPartitionPoint-from_clause (is_below names name) places c.partition_point.result c.partition_point.ensures.partitioned
    (partitioned names places c.requires.order name)
    (λ a r q k. (k.met.1, λ i. (k.met.0.0 i, k.met.0.1 i)))
