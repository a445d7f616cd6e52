-- Each post is one of the list.
use Rattle.collective_round.proofs.Words.{read_in}
use Rattle.collective_round.proofs.gathered.push_posts.Goals as goal

pub push_post-requires : goal.push_post-requires
push_post-requires c = record { accepted = c.requires.accepted c.index-posts-slot.result (read_in c.args.posts.now _ _ c.loop-slot-test.true c.index-posts-slot.is) }
