use Rattle.ruled_line.proofs.Words.{rules}
use Rattle.ruled_line.proofs.LineMoves.{begins, forks}
use Rattle.ruled_line.proofs.line_ends.line.Goals as goal

pub bounded_with-requires-clause-rule : goal.bounded_with-requires-clause-rule
bounded_with-requires-clause-rule g c = begins

pub another-theirs-requires-clause-rule : goal.another-theirs-requires-clause-rule
another-theirs-requires-clause-rule g c = forks _ _ _ (search rules)
