-- The windows so far have the value's bytes, and each was one store.
use Rattle.fill_records.proofs.Words.{◌≡◌, ◌*◌, ◌≤◌, min, after, with_end, written, repeated, stores_before}
use Rattle.fill_records.proofs.slabs.write_value.Given as goal

abbrev pub invariant-loop-number : goal.invariant-loop-number
invariant-loop-number g l = record {
  from : g.D.Disk.from l.disk ≡ 0;
  len : g.D.Disk.len l.disk ≡ g.D.Disk.len l.initial.disk;
  bytes : g.D.Disk.held l.disk ≡ after (λ file. written file l.begin (repeated l.value 0 (min l.len (l.number * l.size)))) (g.D.Disk.held l.initial.disk);
  calls : g.D.Disk.calls l.disk ≡ with_end (g.D.Disk.calls l.initial.disk) (stores_before l.size l.begin l.len l.number);
  faults : g.D.Disk.faults l.initial.disk ≤ g.D.Disk.faults l.disk;
}
