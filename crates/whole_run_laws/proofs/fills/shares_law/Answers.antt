use Rattle.whole_run_laws.proofs.FilledRecord.{shares_all, record_puts}
use Rattle.whole_run_laws.proofs.fills.shares_law.Goals as goal

pub returns : goal.returns
returns c = record { cover = shares_all; puts = record_puts }
