use Rattle.ruled_line.proofs.Words.{rules}
use Rattle.ruled_line.proofs.InboxMoves.{receives}
use Rattle.ruled_line.proofs.inbox_ends.InTake.look.Goals as goal

pub try_recv_as-requires-clause-rule : goal.try_recv_as-requires-clause-rule
try_recv_as-requires-clause-rule g c = (receives _ _ (search rules), λ _ _ _ _. tt)

pub recv_as-requires-clause-rule : goal.recv_as-requires-clause-rule
recv_as-requires-clause-rule g c = (receives _ _ (search rules), λ _ _ _ _. tt)
