-- The blobs have the entries' bytes up to a place, and the calls of the windows so far were made.
use Rattle.data_sieving.proofs.Words.{◌≡◌, ◌-◌, ◌^◌, ◌≤◌, length, flat_map, IfSome, loads, entry_windows, AreAsLong, entries_left, IsPast, AreLeft, HasDone, LieAcross, HasGotPart, windows_from}
use Rattle.data_sieving.proofs.get.sieve_get.Given as goal

abbrev pub invariant-windows : goal.invariant-windows
invariant-windows g l = record {
  past : IsPast l.walk.from l.list (entries_left l.walk.entries);
  left : AreLeft (entries_left l.walk.entries) l.walk.from l.walk.size;
  across : LieAcross l.walk.from l.walk.entries.carried.items;
  size : l.walk.size ≡ length l.initial.buf;
  from : g.D.Disk.from l.disk ≡ g.D.Disk.from l.initial.disk;
  len : g.D.Disk.len l.disk ≡ g.D.Disk.len l.initial.disk;
  bytes : g.D.Disk.held l.disk ≡ g.D.Disk.held l.initial.disk;
  got : IfSome (g.D.Disk.held l.initial.disk) (λ file. HasGotPart (0, l.walk.from) (g.D.Disk.from l.initial.disk) file l.list l.fn.into l.blobs);
  long : AreAsLong l.fn.into l.blobs;
  calls : HasDone (flat_map loads (entry_windows l.walk.size l.list)) (flat_map loads (windows_from l.walk.size l.walk.from l.list)) (g.D.Disk.calls l.initial.disk) (g.D.Disk.calls l.disk);
  sure : g.D.Disk.sure l.initial.disk → g.D.Disk.sure l.disk;
  faults : g.D.Disk.faults l.initial.disk ≤ g.D.Disk.faults l.disk;
}

abbrev pub decreases-windows : goal.decreases-windows
decreases-windows g l = 2 ^ 64 - l.walk.from
