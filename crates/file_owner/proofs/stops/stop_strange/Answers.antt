-- One stop more, where it is an offer.
use Rattle.file_owner.proofs.AlikeLaws.{lines_twice}
use Rattle.file_owner.proofs.stops.stop_strange.Goals as goal

pub returns : goal.returns
returns g c = lines_twice _ _ _ _ _ c.stop_held.ensures c.stop_arrival.ensures
