-- How far the entries so far reach.
use Rattle.overlap_report.proofs.Words.{take}
use Rattle.overlap_report.proofs.SharedSteps.{Reaches}
use Rattle.overlap_report.proofs.shared.first_shared.Given as goal

abbrev pub invariant-loop-entry : goal.invariant-loop-entry
invariant-loop-entry l = Reaches l.reach (take l.entry-index l.list)
