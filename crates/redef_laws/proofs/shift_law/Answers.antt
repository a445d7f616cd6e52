use Rattle.redef_laws.proofs.AppliedLaws.{applied_shifted}
use Rattle.redef_laws.proofs.shift_law.Goals as goal

pub returns : goal.returns
returns c = applied_shifted
