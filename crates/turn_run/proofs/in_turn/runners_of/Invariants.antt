-- So many runners, all alike.
use Rattle.turn_run.proofs.Words.{◌≡◌, replicate, first_runner}
use Rattle.turn_run.proofs.in_turn.runners_of.Given as goal

abbrev pub invariant-loop-rank : goal.invariant-loop-rank
invariant-loop-rank l = l.runners.items ≡ replicate l._rank (first_runner l.header l.records)
