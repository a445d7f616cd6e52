-- The sweep has come so far, over the entries that go on.
use Rattle.overlap_report.proofs.Words.{◌+◌, ◌-◌, ◌≤◌, List, IsHeap, heap_items, heap_len, Owned, entries_of, AreFit, Swept, claim_cmp}
use Rattle.overlap_report.proofs.serial.serve.Given as goal

abbrev pub invariant-bytes : goal.invariant-bytes
invariant-bytes l = record {
  in_order : l.place ≤ l.stop;
  heap : IsHeap claim_cmp (heap_items l.heap);
  fit : AreFit l.place (entries_of (heap_items l.heap));
  swept : (seen : List Owned) → Swept seen l.initial.whole.items (entries_of (heap_items l.initial.heap)) l.initial.place
      → Swept seen l.whole.items (entries_of (heap_items l.heap)) l.place;
}

abbrev pub decreases-bytes : goal.decreases-bytes
decreases-bytes l = heap_len l.heap + (l.stop - l.place)
