use Rattle.redef_mover.proofs.Words.{◌≡◌, drop, find, is_bad_begin, pairs}
use Rattle.redef_mover.proofs.layout_faults.check_begins.Given as goal

abbrev pub invariant-loop-place : goal.invariant-loop-place
invariant-loop-place l = find (is_bad_begin l.header) (pairs (drop l.place-index l.places)) ≡ find (is_bad_begin l.header) (pairs l.places)
