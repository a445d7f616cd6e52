use Rattle.serial_spec.proofs.Words.{refl, inr, lit<, arith, met_by_the_last, two_fixed_at}
use Rattle.serial_spec.proofs.SharingLaws.{sharing_found, sharing_only}
use Rattle.serial_spec.proofs.worked_headers.worked_sharing.Goals as goal

pub returns-clause-pair : goal.returns-clause-pair
returns-clause-pair c = sharing_found (two_fixed_at 100 115) 100 0 1 refl

pub returns-clause-apart : goal.returns-clause-apart
returns-clause-apart c h = let e = sharing_only (two_fixed_at 100 116) 100 0 1 h in cc

pub returns-clause-in_header : goal.returns-clause-in_header
returns-clause-in_header c = sharing_found (two_fixed_at 100 116) 101 0 0 refl

pub returns-clause-least : goal.returns-clause-least
returns-clause-least c = sharing_found met_by_the_last 100 0 2 refl

pub returns-clause-not_least : goal.returns-clause-not_least
returns-clause-not_least c h =
    let least = h.least_first 0 2 (_, refl, inr (lit< tt, _, refl, refl)) in omega (arith, least)
