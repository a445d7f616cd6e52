-- The calls of the windows so far.
use Rattle.window_plan.proofs.Words.{◌≡◌, ◌++◌, take, flat_map, get_calls}
use Rattle.window_plan.proofs.calls.push_loads.Given as goal

abbrev pub invariant-loop-window : goal.invariant-loop-window
invariant-loop-window l = l.calls.items ≡ l.initial.calls.items ++ flat_map get_calls (take l.window-index l.windows)
