use Rattle.whole_run_laws.proofs.HullLengths.{collective_short, sieving_short}
use Rattle.whole_run_laws.proofs.transfers.hull_law.Goals as goal

pub returns : goal.returns
returns c = record { collective = collective_short; sieving = sieving_short }
