use Rattle.rank_core.proofs.Words.{option_copied}
use Rattle.rank_core.proofs.TargetLaws.{at_parts, at_region}
use Rattle.rank_core.proofs.look.look_at.Goals as goal

pub returns-in-Varn : goal.returns-in-Varn
returns-in-Varn c = at_parts c.args.target.now c.args.given.now (option_copied c.args.values) c.look_parts.result c.in-Varn.is c.look_parts.ensures

pub returns-in_default : goal.returns-in_default
returns-in_default c = at_region c.args.target.now c.args.given.now (option_copied c.args.values) c.look_region.result c.in_default.not-Varn c.look_region.ensures
