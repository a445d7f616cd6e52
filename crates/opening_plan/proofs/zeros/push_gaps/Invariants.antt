-- The zeros before the slabs that are left give the whole.
use Rattle.opening_plan.proofs.Words.{◌≡◌, ◌^◌, ◌++◌, drop, behind, gap_calls, gaps_before, AreSpaced}
use Rattle.opening_plan.proofs.CallLaws.{slabs_further}
use Rattle.opening_plan.proofs.zeros.push_gaps.Given as goal

abbrev pub invariant-loop-slab : goal.invariant-loop-slab
invariant-loop-slab l = record {
  spaced : AreSpaced l.at (2 ^ 62) (slabs_further l.offset.old l.offset.new (drop l.slab-index l.slabs));
  place : behind l.at (slabs_further l.offset.old l.offset.new (drop l.slab-index l.slabs)) ≡ behind l.initial.at (slabs_further l.offset.old l.offset.new l.slabs);
  calls : l.calls.items ++ gap_calls l.window (gaps_before l.at (slabs_further l.offset.old l.offset.new (drop l.slab-index l.slabs)))
      ≡ l.initial.calls.items ++ gap_calls l.window (gaps_before l.initial.at (slabs_further l.offset.old l.offset.new l.slabs));
}
