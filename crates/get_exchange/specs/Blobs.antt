-- The blobs of gets, and the file's bytes in them. (own)
--     of_request rank slot list       the entries of one request
--     blob_at table rank slot         the blob of a request
--     HasRead file list old new       each blob with the file's bytes of its entries
--     AreAsLong old new               as many blobs as before, each as long as before
--     FitTable table list             each entry's bytes lie in its blob
--     CanCollect table list           what copying the bytes of entries out of a hull asks of them
--     HaveOnePlaces list              no byte of a blob is read from two places
--     got_in_hull file list t         the file's bytes of the entries' parts in a hull, each at its place in the blob
--     with_blob table rank slot blob  the table with this blob
--     HasCollected lo hi buf ..       each blob with the bytes that its entries have in a buffer
use Rattle.std.specs.Prelude.{◌≡◌, ℕ, ◌+◌, ◌^◌, ◌≤◌, List, [], map, filter, length, ◌==◌, ◌&&◌, slice_index_or, slice_set}
use Rattle.nc_base.specs.declared.plan.Owned.{Owned}
use Rattle.serial_spec.specs.Said.{Cell, write_cells, IsOneValued}
use Rattle.overlay_laws.specs.Entries.{got_cell, In}
use Rattle.overlay_laws.specs.Lines.{extents, EndBelow}
use Rattle.aggregator_rounds.specs.EntryParts.{AreFilled, buffer_cell, part_in, got_cells, places_of}
use Rattle.exchange_crew.specs.Turns.{Told}

abbrev pub of_request : ℕ → ℕ → List Owned → List Owned
of_request rank slot list = filter (λ o. o.rank == rank && o.slot == slot) list

abbrev pub blob_at : List (List (List ℕ)) → ℕ → ℕ → List ℕ
blob_at table rank slot = slice_index_or (slice_index_or table rank []) slot []

-- each blob with the file's bytes of its entries
abbrev pub HasRead : List ℕ → List Owned → List (List (List ℕ)) → List (List (List ℕ)) → Type 0
HasRead file list old new =
    (rank slot : ℕ) → blob_at new rank slot ≡ write_cells (blob_at old rank slot) (map (λ o. got_cell file o) (of_request rank slot list))

-- as many blobs for each rank as before, each as long as before
abbrev pub AreAsLong : List (List (List ℕ)) → List (List (List ℕ)) → Type 0
AreAsLong old new = map (λ blobs. map (λ blob. length blob) blobs) new ≡ map (λ blobs. map (λ blob. length blob) blobs) old

-- each entry's bytes lie in its blob
abbrev pub FitTable : List (List (List ℕ)) → List Owned → Type 0
FitTable table list = (o : Owned) → In list o → o.from + o.extent.len ≤ length (blob_at table o.rank o.slot)

pub record CanCollect (table : List (List (List ℕ))) (list : List Owned) : Type 0 where
  pub ends : EndBelow (2 ^ 62) (extents list)
  pub filled : AreFilled list
  pub fit : FitTable table list

-- no byte of a blob is read from two places
abbrev pub HaveOnePlaces : List Owned → Type 0
HaveOnePlaces list = (rank slot : ℕ) → IsOneValued (places_of (of_request rank slot list))

-- ---- one hull

abbrev pub got_in_hull : List ℕ → List Owned → Told → List Cell
got_in_hull file list t = got_cells 0 file (map (λ o. part_in t.0 (t.0 + t.1) o) list)

abbrev pub with_blob : List (List (List ℕ)) → ℕ → ℕ → List ℕ → List (List (List ℕ))
with_blob table rank slot blob = slice_set table rank (slice_set (slice_index_or table rank []) slot blob)

-- each blob with the bytes that its entries have in a buffer of the bytes from lo to hi
abbrev pub HasCollected : ℕ → ℕ → List ℕ → List Owned → List (List (List ℕ)) → List (List (List ℕ)) → Type 0
HasCollected lo hi buf list old new =
    (rank slot : ℕ) → blob_at new rank slot ≡ write_cells (blob_at old rank slot) (map (λ o. buffer_cell lo hi buf o) (of_request rank slot list))
