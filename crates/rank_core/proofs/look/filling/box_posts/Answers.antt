use Rattle.rank_core.proofs.Words.{map_more, arith, nat_tests}
use Rattle.serial_spec.specs.Looks as looks
use Rattle.rank_core.proofs.look.filling.box_posts.Goals as goal

pub loop-part-preserved : goal.loop-part-preserved
loop-part-preserved c =
    let own = looks.box_post c.args.target.now.place c.args.target.now.var.now c.args.number in
    grind (arith, nat_tests, map_more own c.args.parts.now c.loop-part.part-index c.part-item.result c.loop-part-test.true, c.in_ok-push.ensures.ok, c.loop-part.invariant, c.in_ok-box_post.ensures, c.part-item.is)
