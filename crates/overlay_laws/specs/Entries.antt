-- Entries of a sorted list (extents of the file with the request that owns them), and what the puts and gets of a step say. (own)
--     cells_of_puts header puts         the puts of a step as cells, one per element
--     cell_of source o                  an entry as a cell, its bytes found by rank and slot
--     ranges os                         the bytes of the entries' extents
--     IsRun bytes source from os        entries of one post one after another, the bytes being those of the post
--     IsGathered header source ps ess   for each put of ps the entries that ess has of it
--     got_cell file o                   the file's bytes of an entry, at its place in the blob
use Rattle.std.specs.Prelude.{◌≡◌, ℕ, ◌+◌, List, [], ◌∷◌, take, drop, flat_map, zip, Option, Some, None, slice_get, ◌⊎◌}
use Rattle.std.specs.List.{range_with_len}
use Rattle.nc_base.specs.declared.header.Header.{Header}
use Rattle.nc_base.specs.declared.header.Var.{Var}
use Rattle.nc_base.specs.declared.plan.Post.{Post}
use Rattle.nc_base.specs.declared.plan.Owned.{Owned}
use Rattle.serial_spec.specs.File.{read}
use Rattle.serial_spec.specs.ExternalForm.{size_of}
use Rattle.serial_spec.specs.Request.{cells, places}
use Rattle.serial_spec.specs.SharedByte.{Puts, bytes_of}
use Rattle.serial_spec.specs.Said.{Cell}
pub use Rattle.serial_spec.specs.Lists.{In, HaveSame}

-- ---- puts

abbrev pub cells_of_some : Header → Option Var → Post → List Cell
cells_of_some header None post = []
cells_of_some header (Some var) post = cells (size_of var.kind) (places header var post.region) post.bytes

abbrev pub cells_of : Header → Post → List Cell
cells_of header post = cells_of_some header (slice_get header.vars post.var) post

abbrev pub cells_of_puts : Header → Puts → List Cell
cells_of_puts header puts = flat_map (λ p. cells_of header p.1) puts

-- ---- entries

-- the bytes of the post in this slot of this rank
abbrev pub Source : Type 0
Source = ℕ → ℕ → List ℕ

abbrev pub cell_of : Source → Owned → Cell
cell_of source o = (o.extent.at, take o.extent.len (drop o.from (source o.rank o.slot)))

abbrev pub ranges : List Owned → List ℕ
ranges os = flat_map (λ o. range_with_len o.extent.at o.extent.len) os

abbrev pub IsRun : List ℕ → Source → ℕ → List Owned → Type 0
IsRun bytes source from [] = Unit {0}
IsRun bytes source from (o ∷ os) = (o.from ≡ from) × (source o.rank o.slot ≡ bytes) × IsRun bytes source (from + o.extent.len) os

-- the entries are of this put's request
abbrev pub AreOf : ℕ × Post → List Owned → Type 0
AreOf p [] = Unit {0}
AreOf p (o ∷ os) = (o.rank ≡ p.0) × (o.request ≡ p.1.id) × AreOf p os

abbrev pub IsGathered : Header → Source → Puts → List (List Owned) → Type 0
IsGathered header source [] [] = Unit {0}
IsGathered header source [] (os ∷ ess) = ⊥
IsGathered header source (p ∷ ps) [] = ⊥
IsGathered header source (p ∷ ps) (os ∷ ess) =
    IsRun p.1.bytes source 0 os × (ranges os ≡ bytes_of header p.1) × IsGathered header source ps ess × AreOf p os

-- ---- gets

abbrev pub got_cell : List ℕ → Owned → Cell
got_cell file o = (o.from, read file o.extent.at o.extent.len)

abbrev pub IsRunFrom : ℕ → List Owned → Type 0
IsRunFrom from [] = Unit {0}
IsRunFrom from (o ∷ os) = (o.from ≡ from) × IsRunFrom (from + o.extent.len) os

-- ---- no byte twice within one request

-- no two posts are of one request
abbrev pub HaveOwnKeys : Puts → Type 0
HaveOwnKeys puts = (i j : ℕ) (p q : ℕ × Post) → slice_get puts i ≡ Some p → slice_get puts j ≡ Some q → p.0 ≡ q.0 → p.1.id ≡ q.1.id → i ≡ j
