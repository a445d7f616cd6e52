-- The post is a put, of which no byte stands twice.
use Rattle.step_tests.proofs.TwoPosts.{only_own, only_puts}
use Rattle.step_tests.proofs.tests.steps.put_without_helpers.Goals as goal

pub put_all-end-requires-clause-puts : goal.put_all-end-requires-clause-puts
put_all-end-requires-clause-puts g c κs within = only_puts c.args.header.now c.args.a c.only_put-job.result.batches c.only_put-job.ensures c.is_put.ensures

pub put_all-end-requires-clause-own : goal.put_all-end-requires-clause-own
put_all-end-requires-clause-own g c κs within =
    only_own c.args.header.now c.args.a c.only_put-job.result.batches c.requires c.only_put-job.ensures c.is_put.ensures
