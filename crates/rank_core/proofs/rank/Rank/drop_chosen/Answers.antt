use Rattle.std.proofs.lemmas.Bool.Decides.{nat_tests}
use native.Mathlib.Omega.{arith}
use Rattle.rank_core.proofs.StepLaws.{requests_after}
use Rattle.rank_core.proofs.rank.Rank.drop_chosen.Goals as goal

pub invariant_of-self : goal.invariant_of-self
invariant_of-self c = record {
  sound = c.self.invariant.sound;
  names = c.self.invariant.names;
  requests = grind (arith, nat_tests, requests_after, c.self.invariant.requests, c.cancel.ensures.after, c.cancel.ensures.err);
  offered = c.self.invariant.offered;
}
