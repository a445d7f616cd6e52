use Rattle.vara_extents.proofs.WriteLaws.{extents_put}
use Rattle.vara_extents.proofs.laws.writing_law.Goals as goal

pub returns : goal.returns
returns c = extents_put
