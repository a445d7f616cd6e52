-- The windows so far, one store each.
use Rattle.opening_plan.proofs.Words.{◌≡◌, ◌++◌, stores_before}
use Rattle.opening_plan.proofs.stores.push_stores.Given as goal

abbrev pub invariant-loop-number : goal.invariant-loop-number
invariant-loop-number l = l.calls.items ≡ l.initial.calls.items ++ stores_before l.window l.at l.len l.number
