use Rattle.generated_run.proofs.Words.{rules, columns_of}
use Rattle.generated_run.proofs.calls.get_columns.Goals as goal

pub returns : goal.returns
unfolding columns_of
returns c = search rules
