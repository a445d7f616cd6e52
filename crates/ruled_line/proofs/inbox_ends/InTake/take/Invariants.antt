use Rattle.ruled_line.proofs.Words.{◌≡◌}
use Rattle.ruled_line.proofs.inbox_ends.InTake.take.Given as goal

abbrev pub invariant-loop : goal.invariant-loop
invariant-loop g l =
    (l.self.items ≡ l.initial.self.items) × (l.self.of ≡ l.initial.self.of) × (l.self.senders ≡ l.initial.self.senders)
