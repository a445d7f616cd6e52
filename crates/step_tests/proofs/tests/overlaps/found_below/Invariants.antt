-- The bytes of the entries so far end below 2^62.
use Rattle.std.proofs.Common.{◌^◌, take}
use Rattle.step_tests.proofs.ManyEntries.{AreFoundBelow}
use Rattle.step_tests.proofs.tests.overlaps.found_below.Given as goal

abbrev pub invariant-loop-entry : goal.invariant-loop-entry
invariant-loop-entry l = AreFoundBelow (2 ^ 62) (take l.entry-index l.list)
