use Rattle.whole_run_laws.proofs.CountLaws.{end_count}
use Rattle.whole_run_laws.proofs.counts.count_law.Goals as goal

pub returns : goal.returns
returns c = record { greatest_needed = end_count }
