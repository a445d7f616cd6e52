use Rattle.printed_text.proofs.Cited.{◌≡◌, ◌++◌, take, enumerate_from, flat_map, zip, call_lines}
use Rattle.printed_text.proofs.runs.push_calls.Given as goal

abbrev pub invariant-loop-number : goal.invariant-loop-number
invariant-loop-number l = l.out.items ≡ l.initial.out.items ++ flat_map (call_lines l.fn.names l.fn.calls) (take l.number (enumerate_from 0 (zip l.calls l.answers)))
