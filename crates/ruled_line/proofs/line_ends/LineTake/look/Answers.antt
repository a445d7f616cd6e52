use Rattle.ruled_line.proofs.Words.{rules}
use Rattle.ruled_line.proofs.LineMoves.{takes}
use Rattle.ruled_line.proofs.line_ends.LineTake.look.Goals as goal

pub try_recv_as-requires-clause-rule : goal.try_recv_as-requires-clause-rule
try_recv_as-requires-clause-rule g c = (takes _ _ (search rules), λ _ _ _ _. tt)

pub recv_as-requires-clause-rule : goal.recv_as-requires-clause-rule
recv_as-requires-clause-rule g c = (takes _ _ (search rules), λ _ _ _ _. tt)
