use Rattle.promised_reply.proofs.ReplyMoves.{takes}
use Rattle.promised_reply.proofs.reply_ends.Awaited.look.Goals as goal

pub try_recv_as-requires-clause-rule : goal.try_recv_as-requires-clause-rule
try_recv_as-requires-clause-rule g c = (takes _ _ _, λ _ _ _ _. tt)

pub recv_as-requires-clause-rule : goal.recv_as-requires-clause-rule
recv_as-requires-clause-rule g c = (takes _ _ _, λ _ _ _ _. tt)
