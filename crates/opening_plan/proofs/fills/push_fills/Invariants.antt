-- The fixed variables so far are filled.
use Rattle.opening_plan.proofs.Words.{◌≡◌, ◌++◌, take, flat_map, stores, fixed_variables, slab}
use Rattle.opening_plan.proofs.fills.push_fills.Given as goal

abbrev pub invariant-loop-number : goal.invariant-loop-number
invariant-loop-number l =
    l.calls.items ≡ l.initial.calls.items ++ flat_map (λ v. stores l.window v.begin (slab l.header v)) (fixed_variables l.header (take l.number l.header.vars))
