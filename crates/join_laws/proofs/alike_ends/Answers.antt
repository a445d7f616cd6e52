use Rattle.join_laws.proofs.StandsAlike.{count_alike, ends_alike, told_alike}
use Rattle.join_laws.proofs.alike_ends.Goals as goal

pub returns : goal.returns
returns c = record { ends = ends_alike; counts = count_alike; told = told_alike }
