use Rattle.whole_run_laws.proofs.PartPosts.{varn_gets, varn_puts}
use Rattle.whole_run_laws.proofs.parts.parts_law.Goals as goal

pub returns : goal.returns
returns c = record { puts = varn_puts; gets = varn_gets }
