-- Both posts are gets of records that the file has.
use Rattle.std.proofs.Common.{ℕ, subst, arith}
use Rattle.collective_round.specs.Rounds.{gets_in, AreGets}
use Rattle.step_tests.proofs.TwoPosts.{two_gets}
use Rattle.step_tests.proofs.tests.steps.together.get_by.Goals as goal

pub is_get-requires : goal.is_get-requires
is_get-requires g c = omega (arith, c.size-len.ensures.size, c.is_long.ensures.small)

pub is_get-requires-2 : goal.is_get-requires-2
is_get-requires-2 g c = omega (arith, c.size-len.ensures.size, c.is_long.ensures.small)

pub get_all-requires-clause-gets : goal.get_all-requires-clause-gets
get_all-requires-clause-gets g c κs within =
    subst (λ (n : ℕ). AreGets c.args.set.now.header n (gets_in c.gets_of-job.result.batches)) c.size-len.ensures.size
    (two_gets c.args.set.now.header c.size-len.result c.args.a c.args.b c.gets_of-job.result.batches c.gets_of-job.ensures c.is_get.ensures c.is_get-2.ensures)
