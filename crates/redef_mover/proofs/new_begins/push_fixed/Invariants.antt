use Rattle.redef_mover.proofs.Words.{◌≡◌, ◌++◌, map, fixed_at, fixed_var}
use Rattle.redef_mover.proofs.Places.{fixed_left}
use Rattle.redef_mover.proofs.new_begins.push_fixed.Given as goal

abbrev pub invariant-loop-number : goal.invariant-loop-number
invariant-loop-number l =
    l.order ++ map (fixed_var l.header) (fixed_left l.header l.n l.side l.number) ≡ l.fn.order ++ map (fixed_var l.header) (fixed_at l.header l.n l.side)
