-- The entries so far end below 2^62.
use Rattle.std.proofs.Common.{◌^◌, take}
use Rattle.overlay_laws.specs.Lines.{extents, EndBelow}
use Rattle.step_tests.proofs.tests.overlaps.end_below.Given as goal

abbrev pub invariant-loop-entry : goal.invariant-loop-entry
invariant-loop-entry l = EndBelow (2 ^ 62) (extents (take l.entry-index l.list))
