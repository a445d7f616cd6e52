use Rattle.rank_core.proofs.Words.{bytes_eq, position_map, Dim}
use Rattle.rank_core.proofs.names.Names.find_dim.Goals as goal

pub returns-clause-found : goal.returns-clause-found
returns-clause-found c = rw (c.first_named.ensures.found, c.as_slice.ensures) (position_map (λ m. bytes_eq m c.args.name.now) (λ (x : Dim). x.name) c.args.header.now.dims)
