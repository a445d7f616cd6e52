use Rattle.ruled_line.proofs.Words.{rules}
use Rattle.ruled_line.proofs.LineMoves.{merges}
use Rattle.ruled_line.proofs.line_ends.settle.Goals as goal

pub absorb-requires-clause-rule : goal.absorb-requires-clause-rule
absorb-requires-clause-rule g c = merges _ _ _ _ (search rules) (search rules)
