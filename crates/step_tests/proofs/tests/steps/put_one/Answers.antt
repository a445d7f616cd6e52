-- No byte of the put stands twice.
use Rattle.step_tests.proofs.TwoPosts.{one_own}
use Rattle.step_tests.proofs.tests.steps.put_one.Goals as goal

pub put_solo-requires-clause-own : goal.put_solo-requires-clause-own
put_solo-requires-clause-own g c κs = one_own c.args.header.now 3 c.args.a c.batch_of_put-batch.result c.requires c.batch_of_put-batch.ensures c.is_put.ensures
