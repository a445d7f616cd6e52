-- The fixed variables so far are filled.
use Rattle.fill_records.proofs.Words.{◌≡◌, ◌≤◌, take, fold, flat_map, after, with_end, stores, fill_var, slab, fixed_variables}
use Rattle.fill_records.proofs.slabs.prefill.Given as goal

abbrev pub invariant-loop-var : goal.invariant-loop-var
invariant-loop-var g l = record {
  from : g.D.Disk.from l.disk ≡ 0;
  len : g.D.Disk.len l.disk ≡ g.D.Disk.len l.initial.disk;
  bytes : g.D.Disk.held l.disk ≡ after (λ file. fold (fill_var l.header) file (fixed_variables l.header (take l.var l.header.vars))) (g.D.Disk.held l.initial.disk);
  calls : g.D.Disk.calls l.disk
      ≡ with_end (g.D.Disk.calls l.initial.disk) (flat_map (λ v. stores l.size v.begin (slab l.header v)) (fixed_variables l.header (take l.var l.header.vars)));
  faults : g.D.Disk.faults l.initial.disk ≤ g.D.Disk.faults l.disk;
}
