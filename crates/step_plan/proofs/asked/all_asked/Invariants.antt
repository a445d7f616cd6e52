-- What the ranks so far ask for, and those that are left, is all.
use Rattle.step_plan.proofs.Words.{◌≡◌, ◌+◌, ◌++◌, drop, flat_map, enumerate_from, posts_of, asked_by_all, asked_of, some_asked}
use Rattle.step_plan.proofs.asked.all_asked.Given as goal

abbrev pub invariant-loop-number : goal.invariant-loop-number
invariant-loop-number l =
    l.list.items ++ flat_map (λ b. some_asked (asked_of l.dataset.header.now b.0 (posts_of l.direction b.1))) (enumerate_from (l.first + l.number) (drop l.number l.batches))
    ≡ asked_by_all l.dataset.header.now l.direction l.first l.batches
