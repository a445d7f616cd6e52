use Rattle.ruled_line.proofs.Words.{◌≡◌}
use Rattle.ruled_line.proofs.line_ends.LineTake.take.Given as goal

abbrev pub invariant-loop : goal.invariant-loop
invariant-loop g l =
    (l.self.items ≡ l.initial.self.items) × (l.self.of ≡ l.initial.self.of)
