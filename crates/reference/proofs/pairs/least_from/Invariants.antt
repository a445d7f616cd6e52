-- The least so far, and those that are left.
use Rattle.reference.proofs.Words.{◌≡◌, drop, fold, lesser_key}
use Rattle.reference.proofs.pairs.least_from.Given as goal

abbrev pub invariant-loop-key : goal.invariant-loop-key
invariant-loop-key l = fold lesser_key l.least (drop l.key-index l.keys) ≡ fold lesser_key l.fn.key l.keys
