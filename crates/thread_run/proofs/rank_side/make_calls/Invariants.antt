-- What was put and taken so far brought the rank to its next offer, or to its end.
use Rattle.thread_run.proofs.Words.{◌≡◌, ◌-◌, ◌++◌, drop, length, List, [], None, IfSome, Mark, OwnerItem, RankItem, most_calls, IsAccounted, IsAsked, going_of, IsPlaced}
use Rattle.thread_run.proofs.rank_side.make_calls.Given as goal

abbrev pub invariant-offers : goal.invariant-offers
invariant-offers g l = record {
  of_header : l.runner.rank.header ≡ l.header;
  out : (l.out.of ≡ l.fn.out.of) × (l.out.number ≡ l.fn.out.number);
  back : l.back.of ≡ l.fn.back.of;
  placed : (order : List Mark) × IsPlaced l.script l.header order l.number (going_of l.calls l.runner) l.runner.held;
  asked : IfSome l.runner.held (IsAsked l.header l.runner.rank.state.known);
  ended : l.runner.held ≡ None → drop (length l.runner.answers) l.calls ≡ [];
  accounted : (put : List RankItem) × (taken : List OwnerItem) × (l.out.items ≡ l.fn.out.items ++ put) × (l.back.items ≡ l.fn.back.items ++ taken)
      × IsAccounted l.header l.calls put taken (going_of l.calls l.runner, l.runner.held);
}

abbrev pub decreases-offers : goal.decreases-offers
decreases-offers g l = most_calls - length l.runner.answers
