-- Each request is one of the list.
use Rattle.step_plan.proofs.Words.{read_in}
use Rattle.step_plan.proofs.asked.asked_by.Goals as goal

pub add_post-requires : goal.add_post-requires
add_post-requires c = record { accepted = c.requires.accepted c.post-item.result (read_in c.args.posts.now c.loop-post.post-index c.post-item.result c.loop-post-test.true c.post-item.is) }
