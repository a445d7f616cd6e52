use Rattle.script_text.proofs.Words.{◌≡◌, ◌++◌, take, flat_map, shown_call}
use Rattle.script_text.proofs.calls.push_calls.Given as goal

abbrev pub invariant-loop-call : goal.invariant-loop-call
invariant-loop-call l = l.out.items ≡ l.initial.out.items ++ flat_map (shown_call l.rank) (take l.call-index l.calls)
