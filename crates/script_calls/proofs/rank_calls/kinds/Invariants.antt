use Rattle.script_calls.proofs.Words.{◌≡◌, ◌≤◌, take, length, kinds}
use Rattle.script_calls.proofs.rank_calls.kinds.Given as goal

abbrev pub invariant-loop-call : goal.invariant-loop-call
invariant-loop-call l = record {
  value : l.list ≡ kinds (take l.call-index l.calls);
  bound : length l.list ≤ l.call-index;
}
