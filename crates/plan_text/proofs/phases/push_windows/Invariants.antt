use Rattle.plan_text.proofs.Cited.{◌≡◌, ◌++◌, take, flat_map, window_lines}
use Rattle.plan_text.proofs.phases.push_windows.Given as goal

abbrev pub invariant-loop-window : goal.invariant-loop-window
invariant-loop-window l = l.out.items ≡ l.initial.out.items ++ flat_map (window_lines l.direction) (take l.window-index l.windows)
