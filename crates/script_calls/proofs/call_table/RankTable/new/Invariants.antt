use Rattle.script_calls.proofs.Words.{◌≡◌, [], replicate}
use Rattle.script_calls.proofs.call_table.RankTable.new.Given as goal

abbrev pub invariant-loop : goal.invariant-loop
invariant-loop l = l.list.items ≡ replicate l.counter []
