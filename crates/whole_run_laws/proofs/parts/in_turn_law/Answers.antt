use Rattle.whole_run_laws.proofs.PartSteps.{in_turn}
use Rattle.whole_run_laws.proofs.KeptLaws.{run_long}
use Rattle.whole_run_laws.proofs.parts.in_turn_law.Goals as goal

pub returns : goal.returns
returns c = record { one_by_one = in_turn; long_enough = run_long }
