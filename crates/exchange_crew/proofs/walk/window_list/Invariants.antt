-- The windows so far, and those ahead.
use Rattle.exchange_crew.proofs.Words.{◌≡◌, ◌++◌, length, map, IsWalk, told_window, turns_ahead, turns_of}
use Rattle.exchange_crew.proofs.walk.window_list.Given as goal

abbrev pub invariant-turns : goal.invariant-turns
invariant-turns l = record {
  ready : IsWalk l.windows;
  listed : map told_window l.list.items ++ turns_ahead l.windows ≡ turns_of l.size l.fn.domain l.cover;
}

abbrev pub decreases-turns : goal.decreases-turns
decreases-turns l = length (turns_ahead l.windows)
