use Rattle.redef_mover.proofs.Words.{◌≡◌, take, pairs}
use Rattle.redef_mover.proofs.Written.{with_last}
use Rattle.redef_mover.proofs.begins.write_begins.Given as goal

abbrev pub invariant-loop-place : goal.invariant-loop-place
invariant-loop-place l = l.vars ≡ with_last 0 (pairs (take l.place-index l.places)) l.fn.vars
