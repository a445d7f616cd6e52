-- What is seen of the outside at one time.
--     Output                                what disk and sink tell, and how often each failed
--     Seen                                  the same, and what the source tells
--     output_at disk sink, seen_at source disk sink    those of a disk, a sink and a source
--     SourceFailed, DiskFailed, SinkFailed  one of them failed between two times
use Rattle.std.specs.Prelude.{ℕ, List, Option}
use Rattle.nc_base.specs.declared.step.DiskCall.{DiskCall}
use Rattle.nc_outside.specs.Cause.{Rose}
use Rattle.nc_outside.specs.declared.disk.Disk.{Ghosts as DiskGhosts}
use Rattle.nc_outside.specs.declared.stream.Sink.{Ghosts as SinkGhosts}
use Rattle.nc_outside.specs.declared.stream.Source.{Ghosts as SourceGhosts}

pub record Output : Type 0 where
  pub held : Option (List ℕ)
  pub calls : Option (List DiskCall)
  pub disk_faults : ℕ
  pub given : Option (List ℕ)
  pub sink_faults : ℕ

pub record Seen : Type 0 where
  pub left : Option (List ℕ)
  pub source_faults : ℕ
  pub output : Output

abbrev pub output_at : {D K : Type 0} → DiskGhosts D → SinkGhosts K → D → K → Output
output_at disk sink d k = record { held = disk.held d; calls = disk.calls d; disk_faults = disk.faults d; given = sink.given k; sink_faults = sink.faults k }

abbrev pub seen_at : {S D K : Type 0} → SourceGhosts S → DiskGhosts D → SinkGhosts K → S → D → K → Seen
seen_at source disk sink s d k = record { left = source.left s; source_faults = source.faults s; output = output_at disk sink d k }

abbrev pub SourceFailed : Seen → Seen → Type 0
SourceFailed before now = Rose before.source_faults now.source_faults

abbrev pub DiskFailed : Output → Output → Type 0
DiskFailed before now = Rose before.disk_faults now.disk_faults

abbrev pub SinkFailed : Output → Output → Type 0
SinkFailed before now = Rose before.sink_faults now.sink_faults
