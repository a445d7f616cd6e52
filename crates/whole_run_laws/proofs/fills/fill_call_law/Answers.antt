use Rattle.whole_run_laws.proofs.FillCalls.{calls_filled}
use Rattle.whole_run_laws.proofs.fills.fill_call_law.Goals as goal

pub returns : goal.returns
returns c = calls_filled
