-- An extent after another.
use Rattle.collective_round.proofs.Words.{ap, arith, extents_left, Extents, nat_tests}
use Rattle.collective_round.proofs.PostEntries.{all_left, first_small, next_left, none_left, left_of}
use Rattle.collective_round.proofs.gathered.push_post.Goals as goal

pub loop-extent-init : goal.loop-extent-init
loop-extent-init c =
    all_left _ c.args.rank c.args.slot c.args.post.now (extents_left c.into_iter-extent-iterator.result) c.args.list.now.items c.requires.accepted
    (left_of (extents_left c.into_iter-extent-iterator.result) (extents_left c.new-extent-items.result) c.args.dataset.now.header.now c.args.post.now
    (ap (λ (e : Extents). extents_left e) c.into_iter-extent-iterator.ensures.into_iter_gives) c.new-extent-items.ensures.extents)

pub overflow_add-from : goal.overflow_add-from
overflow_add-from c = grind (arith, nat_tests, first_small, c.in-Some.ensures.steps, c.loop-extent.invariant)

pub loop-extent-preserved : goal.loop-extent-preserved
loop-extent-preserved c =
    next_left _ _ _ _ _ _ _ _ _ _ c.in-Some.ensures.steps c.in_ok-push.ensures.items c.loop-extent.invariant

pub returns : goal.returns
returns c =
    none_left _ _ _ _ _ _ _ c.in-None.ensures.steps.0 c.loop-extent.invariant
