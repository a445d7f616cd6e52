use Rattle.std.proofs.lemmas.Bool.Decides.{nat_tests}
use native.Mathlib.Omega.{arith}
use Rattle.run_laws.proofs.TogetherLaws.{none_waits, call_fresh, call_share, call_lawful, call_posts, call_number, call_waits}
use Rattle.run_laws.proofs.call_law.Goals as goal

pub returns : goal.returns
returns c = grind (arith, nat_tests, none_waits, call_fresh, call_share, call_lawful, call_posts, call_number, call_waits)
