-- What the requests so far ask for.
use Rattle.step_plan.proofs.Words.{◌≡◌, take, asked_of}
use Rattle.step_plan.proofs.asked.asked_by.Given as goal

abbrev pub invariant-loop-post : goal.invariant-loop-post
invariant-loop-post l = l.asked ≡ asked_of l.dataset.header.now l.rank (take l.post-index l.posts)
