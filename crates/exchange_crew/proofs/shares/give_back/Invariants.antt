-- The parts so far came back.
use Rattle.exchange_crew.proofs.Words.{◌≡◌, ◌++◌, vec_capacity}
use Rattle.exchange_crew.proofs.shares.give_back.Given as goal

abbrev pub invariant-loop-part : goal.invariant-loop-part
invariant-loop-part g l = record {
  all : l.yielded ++ l.part-iterator.rest.items ≡ l.fn.rest.items;
  back : l.back.items ≡ l.initial.back.items ++ l.yielded;
  room : vec_capacity l.back ≡ vec_capacity l.initial.back;
}
