use Rattle.script_text.proofs.Expressed.{expressed_again}
use Rattle.script_text.proofs.expressed_law.Goals as goal

pub returns : goal.returns
returns c = expressed_again
