-- The ends of the ranks so far.
use Rattle.turn_run.proofs.Words.{◌≡◌, ◌++◌, map, vec_capacity, runner_end}
use Rattle.turn_run.proofs.in_turn.end_all.Given as goal

abbrev pub invariant-loop-runner : goal.invariant-loop-runner
invariant-loop-runner l = record {
  all : l.yielded ++ l.runner-iterator.rest.items ≡ l.fn.runners.items;
  ended : l.ends.items ≡ map (runner_end l.why) l.yielded;
  room : vec_capacity l.ends ≡ vec_capacity l.initial.ends;
}
