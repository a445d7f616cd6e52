use Rattle.script_text.proofs.Whole.{shown_again}
use Rattle.script_text.proofs.shown_law.Goals as goal

pub returns : goal.returns
returns c = shown_again
