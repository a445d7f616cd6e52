use Rattle.imap_extents.proofs.Cited.{arith, pos, nat_tests}
use Rattle.imap_extents.proofs.CodeLaws.{wrapped_step}
use Rattle.imap_extents.proofs.runs.NumberRunCodes.code_at.Goals as goal

pub returns : goal.returns
returns c = grind (arith, nat_tests, wrapped_step c.args.self.first c.args.self.step (pos c.args.k) c.args.k, c.requires, c.cast_unsigned.ensures)
