use Rattle.script_spelling.proofs.Spelled.{read_spelled}
use Rattle.script_spelling.proofs.spelled_law.Goals as goal

pub returns : goal.returns
returns c = read_spelled
