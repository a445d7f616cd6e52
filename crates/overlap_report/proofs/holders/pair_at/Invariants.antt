-- The least requests of the entries so far.
use Rattle.overlap_report.proofs.Words.{take, AreLeast}
use Rattle.overlap_report.proofs.holders.pair_at.Given as goal

abbrev pub invariant-loop-entry : goal.invariant-loop-entry
invariant-loop-entry l = AreLeast (take l.entry-index l.list) l.at l.least
