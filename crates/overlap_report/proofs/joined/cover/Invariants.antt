-- What was added, with the runs of what is left, is the whole.
use Rattle.overlap_report.proofs.Words.{◌≡◌, ◌++◌, ◌≤◌, drop, extents}
use Rattle.overlap_report.proofs.CoverSteps.{joined_from}
use Rattle.overlap_report.proofs.joined.cover.Given as goal

abbrev pub invariant-loop-entry : goal.invariant-loop-entry
invariant-loop-entry l = record {
  whole : l.whole.items ++ joined_from l.at l.end (extents (drop l.entry-index l.list)) ≡ joined_from 0 0 (extents l.list);
  in_order : l.at ≤ l.end;
}
