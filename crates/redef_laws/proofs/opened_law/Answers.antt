use Rattle.redef_laws.proofs.OpenedLaws.{opened}
use Rattle.redef_laws.proofs.opened_law.Goals as goal

pub returns : goal.returns
returns c = opened
