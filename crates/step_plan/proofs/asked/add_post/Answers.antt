-- A piece after another.
use Rattle.step_plan.proofs.Words.{extents_left, left_of, there_is, arith, nat_tests}
use Rattle.step_plan.proofs.AskedLaws.{no_piece, piece_added, pieces_left}
use Rattle.step_plan.proofs.asked.add_post.Goals as goal

pub loop-extent-init : goal.loop-extent-init
loop-extent-init c =
    let there = there_is c.args.dataset.now.header.now c.args.post.now.var c.args.post.now.region c.requires.accepted in
    grind (arith, nat_tests, pieces_left, left_of, c.into_iter-extent-iterator.ensures.into_iter_gives, c.new-extent-items.ensures.extents)

pub loop-extent-preserved : goal.loop-extent-preserved
loop-extent-preserved c =
    grind (arith, nat_tests, piece_added, c.saturating_add-asked.ensures, c.saturating_add-asked-in-loop-extent.ensures, c.in-Some.ensures.steps, c.loop-extent.invariant)

pub returns : goal.returns
returns c = no_piece c.loop-extent.asked (extents_left c.loop-extent.extent-iterator) _ c.in-None.ensures.steps.0 c.loop-extent.invariant
