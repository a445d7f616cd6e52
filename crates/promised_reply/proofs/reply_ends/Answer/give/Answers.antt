use Rattle.std.proofs.Common.{rules}
use Rattle.promised_reply.proofs.ReplyMoves.{gives}
use Rattle.promised_reply.proofs.reply_ends.Answer.give.Goals as goal

pub send_as-requires-clause-rule : goal.send_as-requires-clause-rule
send_as-requires-clause-rule g c = (gives _ _ _ _ _ (search rules) (search rules), λ _ _ _ _. tt)
