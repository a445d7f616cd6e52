use Rattle.script_calls.proofs.Words.{◌≡◌, ◌≤◌, ◌-◌, length, is_difference}
use Rattle.script_calls.proofs.MismatchLaws.{left}
use Rattle.script_calls.proofs.mismatch.first_difference.Given as goal

abbrev pub invariant-loop-rank : goal.invariant-loop-rank
invariant-loop-rank l = record {
  so_far : left (is_difference l.ranks l.first) l.k (length l.first) ≡ left (is_difference l.ranks l.first) 0 (length l.first);
  within : l.k ≤ length l.first;
}

abbrev pub decreases-loop-rank : goal.decreases-loop-rank
decreases-loop-rank l = length l.first - l.k
