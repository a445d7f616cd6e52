use Rattle.redef_laws.proofs.AppliedLaws.{applied_risen, applied_falls, applied_zeros}
use Rattle.redef_laws.proofs.RisingLaws.{rising_all}
use Rattle.redef_laws.proofs.rising_law.Goals as goal

pub returns : goal.returns
returns c = record { all = rising_all; risen = applied_risen; falls = applied_falls; zeros = λ old new extras z applied some. applied_zeros old new extras applied z some }
