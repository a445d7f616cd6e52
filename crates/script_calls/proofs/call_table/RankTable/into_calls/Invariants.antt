use Rattle.script_calls.proofs.Words.{◌≡◌}
use Rattle.script_calls.proofs.call_table.RankTable.into_calls.Given as goal

abbrev pub invariant-loop-own : goal.invariant-loop-own
invariant-loop-own l = l.table ≡ l.yielded
