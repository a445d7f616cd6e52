-- What is left to be read gives the whole.
use Rattle.get_exchange.proofs.Words.{◌≡◌, ◌≤◌, drop, map, told_window}
use Rattle.get_exchange.proofs.FetchLaws.{IsFetching}
use Rattle.get_exchange.proofs.reading.read_part.Given as goal

abbrev pub invariant-loop-window : goal.invariant-loop-window
invariant-loop-window g l = record {
  of : l.lines.line.of ≡ l.initial.lines.line.of;
  fetching : IsFetching (g.D.Disk.from l.initial.part) (g.D.Disk.len l.initial.part) (map told_window l.windows) (map told_window (drop l.window-index l.windows)) l.lines.line.items
      (g.D.Disk.held l.initial.part) (g.D.Disk.calls l.initial.part) (g.D.Disk.calls l.part);
  held : g.D.Disk.held l.part ≡ g.D.Disk.held l.initial.part;
  from : g.D.Disk.from l.part ≡ g.D.Disk.from l.initial.part;
  len : g.D.Disk.len l.part ≡ g.D.Disk.len l.initial.part;
  later : g.D.Disk.faults l.initial.part ≤ g.D.Disk.faults l.part;
}
