-- The moves that are left give the whole.
use Rattle.opening_plan.proofs.Words.{◌≡◌, ◌++◌, take, reverse, all_calls}
use Rattle.opening_plan.proofs.CallLaws.{slabs_further}
use Rattle.opening_plan.proofs.moving.push_record.Given as goal

abbrev pub invariant-loop-number : goal.invariant-loop-number
invariant-loop-number l =
    l.calls.items ++ all_calls l.window (reverse (slabs_further l.offset.old l.offset.new (take l.number l.slabs)))
    ≡ l.initial.calls.items ++ all_calls l.window (reverse (slabs_further l.offset.old l.offset.new l.slabs))
