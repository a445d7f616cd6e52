use Rattle.whole_run_laws.proofs.PartValues.{varn_answer, varn_values}
use Rattle.whole_run_laws.proofs.parts.varn_get_law.Goals as goal

pub returns : goal.returns
returns c = record { request = varn_values; answer = varn_answer }
