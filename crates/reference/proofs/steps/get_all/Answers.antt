-- One get more.
use Rattle.reference.proofs.Words.{read_in, arith, nat_tests}
use Rattle.reference.proofs.PutSteps.{got_step}
use Rattle.reference.proofs.steps.get_all.Goals as goal

pub get-requires-clause-accepted : goal.get-requires-clause-accepted
get-requires-clause-accepted c = grind (arith, nat_tests, read_in, c.requires.accepted)

pub loop-post-preserved : goal.loop-post-preserved
loop-post-preserved c =
    got_step c.args.header.now c.args.posts.now c.loop-post.post-index c.post-item.result c.args.file.now _ c.loop-post.got.items _ c.loop-post-test.true c.post-item.is
    (c.requires.accepted c.post-item.result (read_in c.args.posts.now c.loop-post.post-index c.post-item.result c.loop-post-test.true c.post-item.is))
    c.in_ok-get.ensures c.in_ok-push.ensures.items c.loop-post.invariant
