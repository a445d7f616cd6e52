-- Both posts are puts, of which no byte stands twice.
use Rattle.step_tests.proofs.TwoPosts.{two_own, two_puts}
use Rattle.step_tests.proofs.tests.steps.together.put_by.Goals as goal

pub put_all-end-requires-clause-puts : goal.put_all-end-requires-clause-puts
put_all-end-requires-clause-puts g c κs within =
    two_puts c.args.set.now.header c.args.a c.args.b c.puts_of-job.result.batches c.puts_of-job.ensures c.is_put.ensures c.is_put-2.ensures

pub put_all-end-requires-clause-own : goal.put_all-end-requires-clause-own
put_all-end-requires-clause-own g c κs within =
    two_own c.args.set.now.header c.args.a c.args.b c.puts_of-job.result.batches c.requires.sound c.puts_of-job.ensures c.is_put.ensures c.is_put-2.ensures
