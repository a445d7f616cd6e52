use Rattle.ruled_line.proofs.Words.{rules}
use Rattle.ruled_line.proofs.LineMoves.{puts}
use Rattle.ruled_line.proofs.line_ends.LinePut.put.Goals as goal

pub send_as-requires-clause-rule : goal.send_as-requires-clause-rule
send_as-requires-clause-rule g c = (puts _ _ _ _ (search rules) (search rules), λ _ _ _ _. tt)
