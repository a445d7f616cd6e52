-- Both posts are gets of records that the file has.
use Rattle.std.proofs.Common.{ℕ, subst, arith}
use Rattle.collective_round.specs.Rounds.{AreGets}
use Rattle.step_tests.proofs.TwoPosts.{two_alone}
use Rattle.step_tests.proofs.tests.steps.get_one.Goals as goal

pub is_get-requires : goal.is_get-requires
is_get-requires g c = omega (arith, c.size-len.ensures.size, c.is_long.ensures.small)

pub is_get-requires-2 : goal.is_get-requires-2
is_get-requires-2 g c = omega (arith, c.size-len.ensures.size, c.is_long.ensures.small)

pub get_solo-requires-clause-gets : goal.get_solo-requires-clause-gets
get_solo-requires-clause-gets g c κs =
    subst (λ (n : ℕ). AreGets c.args.header.now n c.batch_of_gets-batch.result.gets) c.size-len.ensures.size
    (two_alone c.args.header.now c.size-len.result c.args.a c.args.b c.batch_of_gets-batch.result c.batch_of_gets-batch.ensures c.is_get.ensures c.is_get-2.ensures)
