-- Data sieving: sorted entries that are served window by window. (Thakur, Gropp and Lusk, "Data Sieving and Collective I/O in
-- ROMIO", 1999, section 4; the windows' begins and hulls are those of serial_spec)
--     put_cells posts list          the entries of puts as cells, each with its bytes
--     entry_windows buffer list     the windows of the entries' bytes, the buffer being so many bytes
--     of_slot k list                the entries of one slot
--     HasGot from file list old new     each blob with the file's bytes of its entries
use Rattle.std.specs.Prelude.{◌≡◌, ℕ, ◌+◌, ◌≤◌, List, map, filter, length, ◌==◌}
use Rattle.nc_base.specs.declared.plan.Post.{Post}
use Rattle.nc_base.specs.declared.plan.Owned.{Owned}
use Rattle.serial_spec.specs.DeviceCalls.{in_order, sieving_windows}
use Rattle.serial_spec.specs.Said.{Cell, IsOneValued, write_cells}
use Rattle.overlay_laws.specs.Entries.{cell_of, ranges, In}
use Rattle.aggregator_rounds.specs.EntryParts.{blob_at, got_cells, places_of, source_of}

-- ---- puts

abbrev pub put_cells : List Post → List Owned → List Cell
put_cells posts list = map (λ o. cell_of (source_of posts) o) list

-- ---- windows

abbrev pub entry_windows : ℕ → List Owned → List (List ℕ)
entry_windows buffer list = sieving_windows buffer (in_order (ranges list))

-- each entry lies on the disk that begins at this place and has so many bytes
abbrev pub LieOn : ℕ → ℕ → List Owned → Type 0
LieOn from len list = (o : Owned) → In list o → (from ≤ o.extent.at) × (o.extent.at + o.extent.len ≤ from + len)

-- ---- gets

abbrev pub of_slot : ℕ → List Owned → List Owned
of_slot k list = filter (λ o. o.slot == k) list

abbrev pub HasGot : ℕ → List ℕ → List Owned → List (List ℕ) → List (List ℕ) → Type 0
HasGot from file list old new = (k : ℕ) → blob_at new k ≡ write_cells (blob_at old k) (got_cells from file (of_slot k list))

-- each entry's bytes lie in its blob
abbrev pub FitBlobs : List (List ℕ) → List Owned → Type 0
FitBlobs blobs list = (o : Owned) → In list o → o.from + o.extent.len ≤ length (blob_at blobs o.slot)

-- No byte of a blob is read from two places. Where no two entries share a byte of a blob it holds.
abbrev pub HaveOnePlace : List Owned → Type 0
HaveOnePlace list = (k : ℕ) → IsOneValued (places_of (of_slot k list))

-- as many blobs as before, each as long as before
abbrev pub AreAsLong : List (List ℕ) → List (List ℕ) → Type 0
AreAsLong old new = (length new ≡ length old) × ((k : ℕ) → length (blob_at new k) ≡ length (blob_at old k))
