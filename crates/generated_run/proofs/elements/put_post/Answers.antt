use Rattle.generated_run.proofs.Words.{refl}
use Rattle.generated_run.proofs.PostLaws.{post_put}
use Rattle.generated_run.proofs.elements.put_post.Goals as goal

pub returns-in_ok-insert : goal.returns-in_ok-insert
returns-in_ok-insert c = post_put c.args.call.now _ _ _ _ _ c.args.index.now c.insert.new.self _ c.in-Post.is refl c.in_ok-insert.ensures.updates
