-- How a cursor goes over sorted entries. (own)
--     bytes_from place list           the covered bytes from a place on, in order
--     windows_from size place list    the windows that are left when the bytes before the place were served
--     LieAcross place list            each begins before the place and ends past it
--     AreLeft left place size         entries of which the first goes past the place
--     entries_in w                    the entries of a window
--     IsHull at stop list w           a window's hull is from the byte at to the last covered byte before stop
--     HasDone plan rest old now       of the planned calls the rest is left
--     HasGotPart (lo, hi) from file list old new    each blob with the file's bytes of its entries' parts from lo to hi
use Rattle.std.specs.Prelude.{◌≡◌, ℕ, ◌+◌, ◌-◌, ◌^◌, ◌<◌, ◌≤◌, min, List, ◌++◌, map, filter, nat_le, true, false, Option, Some, slice_get}
use Rattle.nc_base.specs.declared.plan.Owned.{Owned}
use Rattle.nc_base.specs.declared.step.DiskCall.{DiskCall}
use Rattle.file_domains.specs.declared.walk.Window.{Window}
use Rattle.data_sieving.specs.declared.walk.SieveWindow.{SieveWindow}
use Rattle.nc_outside.specs.Told.{with_end}
use Rattle.serial_spec.specs.DeviceCalls.{in_order, sieving_windows}
use Rattle.serial_spec.specs.Said.{write_cells}
use Rattle.overlay_laws.specs.Entries.{In, ranges}
use Rattle.overlay_laws.specs.Lines.{extents, IsByPlace, EndBelow}
use Rattle.aggregator_rounds.specs.EntryParts.{blob_at, got_cells, part_in, AreFilled, IsCovered}
use Rattle.aggregator_rounds.specs.Left.{BeginBefore}
use Rattle.data_sieving.specs.Sieving.{of_slot}

-- ---- covered bytes

abbrev pub bytes_from : ℕ → List Owned → List ℕ
bytes_from place list = filter (λ y. nat_le place y) (in_order (ranges list))

abbrev pub windows_from : ℕ → ℕ → List Owned → List (List ℕ)
windows_from size place list = sieving_windows size (bytes_from place list)

-- ---- what is left

abbrev pub LieAcross : ℕ → List Owned → Type 0
LieAcross place list = (o : Owned) → In list o → (o.extent.at < place) × (place < o.extent.at + o.extent.len)

pub record AreLeft (left : List Owned) (place size : ℕ) : Type 0 where
  pub sorted : IsByPlace (extents left)
  pub ends : EndBelow (2 ^ 62) (extents left)
  pub filled : AreFilled left
  pub next : (o : Owned) → slice_get left 0 ≡ Some o → place < o.extent.at + o.extent.len
  pub some : 1 ≤ size

-- ---- a window

abbrev pub entries_in : SieveWindow → List Owned
entries_in w = w.carried.now ++ w.fresh.now

-- entries that have the byte at a place have all up to the end, and no others before the stop
pub record Reach (at stop : ℕ) (list : List Owned) (end : ℕ) : Type 0 where
  pub low : at ≤ end
  pub high : end ≤ stop
  pub each : (o : Owned) → In list o → min stop (o.extent.at + o.extent.len) ≤ end
  pub all : (x : ℕ) → at ≤ x → x < end → IsCovered list x

pub record IsHull (at stop : ℕ) (list : List Owned) (w : Window) : Type 0 where
  pub begin : w.hull.at ≡ at
  pub some : 1 ≤ w.hull.len
  pub short : at + w.hull.len ≤ stop
  pub each : (x : ℕ) → IsCovered list x → x < stop → x < at + w.hull.len
  pub last : IsCovered list (at + w.hull.len - 1)
  pub full : w.full ≡ true → (x : ℕ) → at ≤ x → x < at + w.hull.len → IsCovered list x
  pub hole : w.full ≡ false → (x : ℕ) × (at ≤ x) × (x < at + w.hull.len) × (IsCovered list x → ⊥)

-- the window that begins at the first byte from the place on, with the entries that may have bytes in it
pub record IsNext (left : List Owned) (place size : ℕ) (w : Window) (served : List Owned) (stop : ℕ) : Type 0 where
  pub from : place ≤ w.hull.at
  pub first : IsCovered left w.hull.at
  pub least : (x : ℕ) → IsCovered left x → place ≤ x → w.hull.at ≤ x
  pub ends : stop ≡ min (w.hull.at + size) (2 ^ 64 - 1)
  pub front : BeginBefore stop left served
  pub hull : IsHull w.hull.at stop served w

-- ---- the calls

pub record HasDone (plan rest : List DiskCall) (old now : Option (List DiskCall)) : Type 0 where
  pub done : List DiskCall
  pub told : now ≡ with_end old done
  pub whole : plan ≡ done ++ rest

-- ---- gets

-- from one place up to another
abbrev pub HasGotPart : ℕ × ℕ → ℕ → List ℕ → List Owned → List (List ℕ) → List (List ℕ) → Type 0
HasGotPart part from file list old new =
    (k : ℕ) → blob_at new k ≡ write_cells (blob_at old k) (got_cells from file (map (λ o. part_in part.0 part.1 o) (of_slot k list)))
