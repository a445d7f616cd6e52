-- The slots of the entries so far have risen.
use Rattle.std.proofs.Common.{take}
use Rattle.step_tests.proofs.ManyEntries.{HaveRisen}
use Rattle.step_tests.proofs.tests.overlaps.slots_rise.Given as goal

abbrev pub invariant-loop-entry : goal.invariant-loop-entry
invariant-loop-entry l = HaveRisen (take l.entry-index l.list) l.least
