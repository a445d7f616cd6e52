use Rattle.ruled_line.proofs.Words.{true, false, [], sends_on, ruled_capacity, line_view}
use Rattle.ruled_line.proofs.line_ends.line.Given as goal

abbrev pub ghosts-another : goal.ghosts-another
ghosts-another g a = record { left = λ v. line_view true false (ruled_capacity (sends_on a.self.now)) v.put []; right = λ v. line_view false true 0 [] v.taken }
