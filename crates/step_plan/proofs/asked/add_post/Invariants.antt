-- What is counted, and the pieces that are left, is all.
use Rattle.step_plan.proofs.Words.{◌≡◌, fold, extents_left, asked_with, with_piece}
use Rattle.step_plan.proofs.asked.add_post.Given as goal

abbrev pub invariant-loop-extent : goal.invariant-loop-extent
invariant-loop-extent l = fold with_piece l.asked (extents_left l.extent-iterator) ≡ asked_with l.dataset.header.now l.post l.initial.asked
