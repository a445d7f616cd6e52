use Rattle.std.proofs.Common.{◌≡◌}
use Rattle.promised_reply.proofs.reply_ends.Awaited.take.Given as goal

abbrev pub invariant-loop : goal.invariant-loop
invariant-loop g l = l.end ≡ l.fn.self
