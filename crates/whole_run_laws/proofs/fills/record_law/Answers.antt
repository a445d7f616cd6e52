use Rattle.whole_run_laws.proofs.FilledRecord.{record_reads}
use Rattle.whole_run_laws.proofs.fills.record_law.Goals as goal

pub returns : goal.returns
returns c = record_reads
