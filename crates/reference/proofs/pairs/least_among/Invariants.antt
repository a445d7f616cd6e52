-- The least so far, and those that are left.
use Rattle.reference.proofs.Words.{◌≡◌, drop, filter, is_shared, least_with}
use Rattle.reference.proofs.pairs.least_among.Given as goal

abbrev pub invariant-loop-byte : goal.invariant-loop-byte
invariant-loop-byte l = least_with l.least (filter (is_shared l.held) (drop l.byte-index l.bytes)) ≡ least_with l.fn.known (filter (is_shared l.held) l.bytes)
