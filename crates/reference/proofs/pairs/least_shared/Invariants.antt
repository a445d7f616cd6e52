-- The least so far, and those that are left.
use Rattle.reference.proofs.Words.{◌≡◌, drop, filter, all_bytes, is_shared, least, least_with}
use Rattle.reference.proofs.pairs.least_shared.Given as goal

abbrev pub invariant-loop-one : goal.invariant-loop-one
invariant-loop-one l = least_with l.least (filter (is_shared l.held) (all_bytes (drop l.one-index l.held))) ≡ least (filter (is_shared l.held) (all_bytes l.held))
