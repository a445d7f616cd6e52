-- The pair at the first byte that two requests hold.
use Rattle.overlap_report.proofs.SharedSteps.{no_pair, found_pair}
use Rattle.overlap_report.proofs.shared.first_pair.Goals as goal

pub returns-in-None : goal.returns-in-None
returns-in-None c = no_pair c.args.list.now c.in-None.ensures

pub returns-in-Some : goal.returns-in-Some
returns-in-Some c = found_pair c.args.list.now c.in-Some.at c.pair_at.result c.in-Some.ensures c.pair_at.ensures
