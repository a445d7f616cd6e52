use Rattle.rank_core.proofs.Words.{arith, boxes, fill_posts, nat_tests}
use Rattle.rank_core.proofs.FillPostLaws.{few_small}
use Rattle.rank_core.proofs.look.filling.fill_posts.Goals as goal

pub boxes-requires : goal.boxes-requires
boxes-requires c = grind (arith, nat_tests, c.in_ok-lengths.ensures, c.requires.rise, c.requires.within, c.requires.small)

pub box_posts-requires : goal.box_posts-requires
box_posts-requires c =
    grind (arith, nat_tests, few_small, c.in_ok-lengths.ensures, c.as_slice.ensures, c.in_ok-parts.ensures.boxes, c.requires.rise, c.requires.within, c.requires.few)

pub returns : goal.returns
unfolding fill_posts
returns c = grind (arith, nat_tests, c.as_slice.ensures, c.in_ok-parts.ensures.boxes, c.in_ok-lengths.ensures, c.box_posts.ensures)
