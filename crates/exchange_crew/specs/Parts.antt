-- A part of a disk, by what contracts see of it. (own)
--     PartState                          a part
--     part_state disk part               that of a disk's part
--     SomeZip R xs ys                    R holds of the items of two lists at some place
use Rattle.std.specs.Prelude.{ℕ, ◌⊎◌, List, [], ◌∷◌, Option}
use Rattle.nc_base.specs.declared.step.DiskCall.{DiskCall}
use Rattle.nc_outside.specs.declared.disk.Disk.{Ghosts as DiskGhosts}

pub record PartState : Type 0 where
  pub from : ℕ
  pub len : ℕ
  pub held : Option (List ℕ)
  pub calls : Option (List DiskCall)
  pub faults : ℕ

abbrev pub part_state : {D : Type 0} → DiskGhosts D → D → PartState
part_state disk part = record { from = disk.from part; len = disk.len part; held = disk.held part; calls = disk.calls part; faults = disk.faults part }

-- R holds of the items of two lists at some place
abbrev pub SomeZip : {A B : Type 0} → (A → B → Type 0) → List A → List B → Type 0
SomeZip R [] ys = ⊥
SomeZip R (x ∷ xs) [] = ⊥
SomeZip R (x ∷ xs) (y ∷ ys) = R x y ⊎ SomeZip R xs ys
