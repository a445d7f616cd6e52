-- The sweep has come to the last entry's begin, and each entry left begins there or later.
use Rattle.overlap_report.proofs.Words.{◌≤◌, ◌<◌, ◌^◌, take, drop, IsHeap, heap_items, Owned, In, entries_of, claim_cmp, AreFit, Swept}
use Rattle.overlap_report.proofs.serial.resolve.Given as goal

abbrev pub invariant-loop-entry : goal.invariant-loop-entry
invariant-loop-entry l = record {
  heap : IsHeap claim_cmp (heap_items l.heap);
  fit : AreFit l.place (entries_of (heap_items l.heap));
  swept : Swept (take l.entry-index l.list) l.whole.items (entries_of (heap_items l.heap)) l.place;
  bound : l.place < 2 ^ 62;
  later : (o : Owned) → In (drop l.entry-index l.list) o → l.place ≤ o.extent.at;
}
