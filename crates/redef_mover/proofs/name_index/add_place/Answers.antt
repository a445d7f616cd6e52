use Rattle.std.proofs.lemmas.Bool.Decides.{nat_tests}
use native.Mathlib.Omega.{arith}
use Rattle.redef_mover.proofs.IndexLaws.{absent, put_new}
use Rattle.redef_mover.proofs.name_index.add_place.Goals as goal

pub returns-in_ok-insert : goal.returns-in_ok-insert
returns-in_ok-insert c = grind (arith, nat_tests, absent, put_new, c.if-not-contains_key.true, c.in_ok-insert.ensures.updates)
