use Rattle.std.proofs.Common.{◌≡◌}
use Rattle.std.specs.Prelude.{IsSome}
use Rattle.crossbeam_channel.specs.Claims.{view, IsSeatAt}
use Rattle.crossbeam_channel.specs.Ends.{sends_on}
use Rattle.promised_reply.proofs.reply_ends.Answer.give.Given as goal

abbrev pub invariant-loop : goal.invariant-loop
invariant-loop g l = IsSeatAt (sends_on l.sender) l.pass × IsSome (view l.pass).promise × ((view l.pass).promise ≡ l.fn.self) × (l.next ≡ l.fn.item)
