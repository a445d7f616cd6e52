use Rattle.owner_laws.proofs.ServedLaws.{order_found, stranger_found}
use Rattle.owner_laws.proofs.stranger_law.Goals as goal

pub returns : goal.returns
returns c = record { stranger = stranger_found; order = order_found }
