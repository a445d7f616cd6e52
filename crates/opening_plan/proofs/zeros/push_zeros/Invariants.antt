-- The zeros between the slabs of the records that are left give the whole.
use Rattle.opening_plan.proofs.Words.{◌≡◌, ◌++◌, gaps, gap_calls, listed, AreSpaced, above}
use Rattle.opening_plan.proofs.zeros.push_zeros.Given as goal

abbrev pub invariant-loop-record : goal.invariant-loop-record
invariant-loop-record l = record {
  spaced : AreSpaced l.at l.end (above l.slabs l.record);
  calls : l.calls.items ++ gap_calls l.window (gaps l.at l.end (above l.slabs l.record))
      ≡ l.fn.calls.items ++ gap_calls l.window (gaps l.fn.first l.end (listed l.slabs));
}
