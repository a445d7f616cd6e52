-- Each offer that was taken so far has its stop.
use Rattle.file_owner.proofs.Words.{HaveMet}
use Rattle.file_owner.proofs.stops.stop_rest.Given as goal

abbrev pub invariant-loop : goal.invariant-loop
invariant-loop g l = HaveMet l.initial.inbox l.inbox l.initial.back l.back l.initial.senders.ended l.senders.ended
