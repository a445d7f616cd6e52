use Rattle.dataset_start.proofs.Words.{◌≡◌, ◌≤◌, ◌-◌, length, take, with_end}
use Rattle.dataset_start.proofs.streams.give_all.Given as goal

abbrev pub invariant-loop-at : goal.invariant-loop-at
invariant-loop-at g l = record {
  within : l.at ≤ length l.text;
  given : g.K.Sink.given l.out ≡ with_end (g.K.Sink.given l.initial.out) (take l.at l.text);
  later : g.K.Sink.faults l.initial.out ≤ g.K.Sink.faults l.out;
}

abbrev pub decreases-loop-at : goal.decreases-loop-at
decreases-loop-at g l = length l.text - l.at
