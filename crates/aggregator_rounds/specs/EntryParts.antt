-- Entries, and their parts in a window. (own)
--     AreFilled list                  no entry is empty
--     IsCovered list x                some entry has the byte
--     part_in lo hi entry             the part of an entry from lo to hi; it is empty where the entry has no byte there
--     source_of posts                 the bytes of the post in a slot
--     blob_at blobs k                 the blob of a slot
--     got_cells from file list        the file's bytes of entries, each at its place in the blob; the file begins at place from
--     places_of list                  the places in the file of the bytes of a blob, by the bytes' places in the blob
--     buffer_cell lo hi buf entry     the bytes that an entry has in a buffer of the bytes from lo to hi, at their place in the blob
use Rattle.std.specs.Prelude.{ℕ, ◌+◌, ◌-◌, ◌<◌, ◌≤◌, min, max, List, [], map, take, drop, flat_map, Option, Some, None, slice_get, slice_index_or}
use Rattle.std.specs.List.{range_with_len, enumerate_from}
use Rattle.nc_base.specs.declared.plan.Post.{Post}
use Rattle.nc_base.specs.declared.plan.Owned.{Owned}
use Rattle.serial_spec.specs.File.{read}
use Rattle.serial_spec.specs.Said.{Cell}
use Rattle.overlay_laws.specs.Entries.{Source, In}

abbrev pub AreFilled : List Owned → Type 0
AreFilled list = (o : Owned) → In list o → 1 ≤ o.extent.len

pub record IsCovered (list : List Owned) (x : ℕ) : Type 0 where
  pub by : Owned
  pub inside : In list by
  pub low : by.extent.at ≤ x
  pub high : x < by.extent.at + by.extent.len

abbrev pub part_at : ℕ → ℕ → Owned → ℕ
part_at lo hi o = min hi (max lo o.extent.at)

abbrev pub part_in : ℕ → ℕ → Owned → Owned
part_in lo hi o = record {
  extent = record { at = part_at lo hi o; len = min hi (o.extent.at + o.extent.len) - part_at lo hi o };
  rank = o.rank;
  request = o.request;
  slot = o.slot;
  from = o.from + min o.extent.len (part_at lo hi o - o.extent.at);
}

-- ---- puts

abbrev pub bytes_of_post : Option Post → List ℕ
bytes_of_post None = []
bytes_of_post (Some p) = p.bytes

abbrev pub source_of : List Post → Source
source_of posts rank slot = bytes_of_post (slice_get posts slot)

-- ---- gets

abbrev pub blob_at : List (List ℕ) → ℕ → List ℕ
blob_at blobs k = slice_index_or blobs k []

abbrev pub got_cells : ℕ → List ℕ → List Owned → List Cell
got_cells from file list = map (λ o. (o.from, read file (o.extent.at - from) o.extent.len)) list

abbrev pub places_of : List Owned → List (ℕ × ℕ)
places_of list = flat_map (λ o. enumerate_from o.from (range_with_len o.extent.at o.extent.len)) list

abbrev pub buffer_cell : ℕ → ℕ → List ℕ → Owned → Cell
buffer_cell lo hi buf o = ((part_in lo hi o).from, take (part_in lo hi o).extent.len (drop ((part_in lo hi o).extent.at - lo) buf))
