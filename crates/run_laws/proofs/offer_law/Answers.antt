use Rattle.run_laws.proofs.CallLaws.{alone_keeps, meets_keeps, solo_keeps, hears_keeps}
use Rattle.run_laws.proofs.offer_law.Goals as goal

pub returns : goal.returns
returns c = record { alone = alone_keeps; meets = meets_keeps; solo = solo_keeps; hears = hears_keeps }
