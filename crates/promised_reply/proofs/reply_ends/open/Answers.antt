use Rattle.std.proofs.Common.{rules}
use Rattle.promised_reply.proofs.ReplyMoves.{begins, opens}
use Rattle.promised_reply.proofs.reply_ends.open.Goals as goal

pub bounded_with-requires-clause-rule : goal.bounded_with-requires-clause-rule
bounded_with-requires-clause-rule g c = begins g.P.Promise.kept_by

pub another-theirs-requires-clause-rule : goal.another-theirs-requires-clause-rule
another-theirs-requires-clause-rule g c = opens _ _ _ _ c.args.promise.now (search rules) (search rules)
