use Rattle.redef_laws.proofs.AppliedLaws.{applied_moved}
use Rattle.redef_laws.proofs.moved_law.Goals as goal

pub returns : goal.returns
returns c = λ old new extras file left applied moved. applied_moved old new extras applied file left moved
