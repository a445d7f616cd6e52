-- What is known of a run between two of its steps. (own)
--     Point                    its order so far, the file's bytes, where they are told, and the record count
--     Contents                 a file's bytes, where they are told, and its record count
--     DiskSeen                 what a disk tells at one time, and how often it failed
--     contents disk d n        the contents of a disk with so many records
--     seen_on disk d           what is seen of a disk
use Rattle.std.specs.Prelude.{ℕ, List, Option}
use Rattle.nc_base.specs.declared.step.DiskCall.{DiskCall}
use Rattle.nc_base.specs.declared.step.Mark.{Mark}
use Rattle.nc_outside.specs.declared.disk.Disk.{Ghosts as DiskGhosts}

pub record Point : Type 0 where
  pub order : List Mark
  pub held : Option (List ℕ)
  pub records : ℕ

abbrev pub point : List Mark → Option (List ℕ) → ℕ → Point
point order held records = record { order = order; held = held; records = records }

pub record Contents : Type 0 where
  pub held : Option (List ℕ)
  pub records : ℕ

abbrev pub contents_of : Option (List ℕ) → ℕ → Contents
contents_of held records = record { held = held; records = records }

abbrev pub contents : {D : Type 0} → DiskGhosts D → D → ℕ → Contents
contents disk d records = contents_of (disk.held d) records

pub record DiskSeen : Type 0 where
  pub held : Option (List ℕ)
  pub calls : Option (List DiskCall)
  pub faults : ℕ

abbrev pub seen : Option (List ℕ) → Option (List DiskCall) → ℕ → DiskSeen
seen held calls faults = record { held = held; calls = calls; faults = faults }

abbrev pub seen_on : {D : Type 0} → DiskGhosts D → D → DiskSeen
seen_on disk d = seen (disk.held d) (disk.calls d) (disk.faults d)
