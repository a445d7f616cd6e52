use Rattle.script_spelling.proofs.Words.{refl, eq-eqb, leb-true}
use Rattle.script_spelling.proofs.CallCounts.{text_again}
use Rattle.script_spelling.proofs.Spelled.{read_spelled}
use Rattle.script_spelling.proofs.worked_lines.worked_text.Goals as goal

pub returns : goal.returns
returns c = record { lines = refl; remarks = refl; spells = λ utf8. read_spelled _ _ (text_again _ _ (leb-true _ _ refl) (eq-eqb _ _ utf8) (leb-true _ _ refl) refl) }
