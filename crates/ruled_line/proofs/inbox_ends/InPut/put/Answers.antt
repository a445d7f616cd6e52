use Rattle.ruled_line.proofs.Words.{rules}
use Rattle.ruled_line.proofs.InboxMoves.{sends}
use Rattle.ruled_line.proofs.inbox_ends.InPut.put.Goals as goal

pub send_as-requires-clause-rule : goal.send_as-requires-clause-rule
send_as-requires-clause-rule g c = (sends _ _ _ _ (search rules) (search rules) (search rules), λ _ _ _ _. tt)
