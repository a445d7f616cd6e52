-- The calls of the windows so far.
use Rattle.window_plan.proofs.Words.{◌≡◌, ◌++◌, take, flat_map, put_calls}
use Rattle.window_plan.proofs.calls.push_stores.Given as goal

abbrev pub invariant-loop-window : goal.invariant-loop-window
invariant-loop-window l = l.calls.items ≡ l.initial.calls.items ++ flat_map put_calls (take l.window-index l.windows)
