-- What the puts of a step come to, and what is planned for one aggregator. (own)
--     IsPlan batches list cover size     sorted entries of the puts, which say one value of a byte, their cover, and the bytes of a window
--     IsPlanned plan                     the same, of what an exchange is lent
--     IsDomainOf list from len domain    a domain on a part that begins at `from`: it has all covered bytes of the part
--     HaveDomains disk list domains parts    a domain for each part of a disk
--     IsLineRoom n                       so many items may wait on a line
--     planned_turns plan domain          the windows of a domain
--     planned_pieces plan domain         their pieces
use Rattle.std.specs.Prelude.{◌≡◌, ℕ, ◌+◌, ◌<◌, ◌^◌, ◌≤◌, List, length, map, slice_get, Some}
use Rattle.nc_base.specs.declared.plan.Batch.{Batch}
use Rattle.nc_base.specs.declared.plan.Extent.{Extent}
use Rattle.nc_base.specs.declared.plan.Owned.{Owned}
use Rattle.nc_outside.specs.declared.disk.Disk.{Ghosts as DiskGhosts}
use Rattle.overlay_laws.specs.Entries.{In, Source, cell_of, ranges, HaveSame}
use Rattle.overlay_laws.specs.Lines.{extents, EndBelow, IsByPlace}
use Rattle.overlay_laws.specs.Walks.{IsCover}
use Rattle.serial_spec.specs.Extents.{spans}
use Rattle.serial_spec.specs.Said.{said_by, IsOneValued}
use Rattle.file_domains.specs.Domains.{LiesIn}
use Rattle.aggregator_rounds.specs.EntryParts.{IsCovered}
use Rattle.exchange_crew.specs.Pieces.{pieces_of, ArePieces}
use Rattle.exchange_crew.specs.Turns.{Told, source_of, turns_of}
use Rattle.exchange_crew.specs.declared.plan.PutPlan.{PutPlan}

pub record IsPlan (batches : List Batch) (list : List Owned) (cover : List Extent) (size : ℕ) : Type 0 where
  pub few : length batches ≤ 64
  pub sorted : IsByPlace (extents list)
  pub ends : EndBelow (2 ^ 62) (extents list)
  pub pieces : ArePieces (source_of batches) list
  pub below : (o : Owned) → In list o → o.rank < length batches
  pub one : IsOneValued (said_by (map (λ o. cell_of (source_of batches) o) list))
  pub covers : IsCover cover
  pub cover_ends : EndBelow (2 ^ 62) cover
  pub cover_bytes : HaveSame (spans cover) (ranges list)
  pub some : 1 ≤ size

abbrev pub IsPlanned : PutPlan → Type 0
IsPlanned p = IsPlan p.job.now.batches p.list.now p.cover.now p.hints.now.cb_buffer

pub record IsDomainOf (list : List Owned) (from len : ℕ) (domain : Extent) : Type 0 where
  pub low : from ≤ domain.at
  pub high : domain.at + domain.len ≤ from + len
  pub whole : (x : ℕ) → from ≤ x → x < from + len → IsCovered list x → LiesIn domain x

pub record HaveDomains {D : Type 0} (disk : DiskGhosts D) (list : List Owned) (domains : List Extent) (parts : List D) : Type 0 where
  pub one_each : length domains ≡ length parts
  pub each : (k : ℕ) (part : D) (domain : Extent) → slice_get parts k ≡ Some part → slice_get domains k ≡ Some domain → IsDomainOf list (disk.from part) (disk.len part) domain

pub record IsLineRoom (n : ℕ) : Type 0 where
  pub low : 1 ≤ n
  pub high : n ≤ 64

abbrev pub source_in : PutPlan → Source
source_in p = source_of p.job.now.batches

abbrev pub planned_turns : PutPlan → Extent → List Told
planned_turns p domain = turns_of p.hints.now.cb_buffer domain p.cover.now

abbrev pub planned_pieces : PutPlan → Extent → List Owned
planned_pieces p domain = pieces_of (length p.job.now.batches) p.list.now (planned_turns p domain)
