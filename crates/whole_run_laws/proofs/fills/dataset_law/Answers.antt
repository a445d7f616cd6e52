use Rattle.whole_run_laws.proofs.FilledFile.{filled_reads, filled_stays}
use Rattle.whole_run_laws.proofs.fills.dataset_law.Goals as goal

pub returns : goal.returns
returns c = record { begins = filled_reads; ends = filled_stays }
