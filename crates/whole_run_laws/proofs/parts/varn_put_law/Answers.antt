use Rattle.whole_run_laws.proofs.PartSteps.{varn_left}
use Rattle.whole_run_laws.proofs.parts.varn_put_law.Goals as goal

pub returns : goal.returns
returns c = varn_left
