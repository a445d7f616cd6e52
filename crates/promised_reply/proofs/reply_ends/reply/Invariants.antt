use Rattle.std.proofs.Common.{Some}
use Rattle.promised_reply.proofs.reply_ends.reply.Given as goal

abbrev pub ghosts-open : goal.ghosts-open
ghosts-open g a = record { named = Some a.promise.now }
