use Rattle.redef_mover.proofs.Words.{◌≤◌, ◌^◌}
use Rattle.redef_mover.proofs.Places.{FixedSoFar}
use Rattle.redef_mover.proofs.new_begins.place_fixed.Given as goal

abbrev pub invariant-loop-var : goal.invariant-loop-var
invariant-loop-var l = record {
  small : l.front ≤ 2 ^ 62;
  placed : FixedSoFar l.order l.first l.var-index l.fn.places l.places l.front;
}
