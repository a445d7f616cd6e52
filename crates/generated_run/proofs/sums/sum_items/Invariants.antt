use Rattle.generated_run.proofs.Words.{◌≡◌, fold, take, ◌+ℤ◌, sum_of}
use Rattle.generated_run.proofs.sums.sum_items.Given as goal

abbrev pub invariant-loop-item : goal.invariant-loop-item
invariant-loop-item l = l.total ≡ fold (λ s i. s +ℤ sum_of i.values) l.fn.start (take l.item-index l.items)
