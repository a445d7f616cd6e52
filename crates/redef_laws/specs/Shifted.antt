-- How the slabs of the old variables move, and what the file is when they have. (own)
--     AreShifted old_first first end slabs     each slab moves up or stays, none passes another, and all lie behind the headers
--     IsMoved old new file left                the new header is at the front, each slab at its new place, zeros between, the rest kept
use Rattle.std.specs.Prelude.{◌≡◌, ℕ, ◌+◌, ◌<◌, ◌≤◌, max, List, length, take, ◌⊎◌}
use Rattle.nc_base.specs.declared.header.Header.{Header}
use Rattle.serial_spec.specs.DeviceCalls.{Slab, slabs}
use Rattle.serial_spec.specs.File.{at}
use Rattle.serial_spec.specs.HeaderBytes.{canon, header_len}
use Rattle.serial_spec.specs.Layout.{end_of}
use Rattle.overlay_laws.specs.Entries.{In}

-- A slab holds a byte, lies behind both headers and before the new end, and its new place is no lower than the old one.
pub record IsShifted (old_first first end : ℕ) (s : Slab) : Type 0 where
  pub some : 0 < s.len
  pub old_past : old_first ≤ s.from
  pub up : s.from ≤ s.to
  pub past : first ≤ s.to
  pub inside : s.to + s.len ≤ end

-- Of two slabs the lower one ends before the other begins, in the old file and in the new one.
pub record IsLower (s t : Slab) : Type 0 where
  pub before : s.from + s.len ≤ t.from
  pub after : s.to + s.len ≤ t.to

-- Two slabs of different places in the list are apart.
pub record AreShifted (old_first first end : ℕ) (ss : List Slab) : Type 0 where
  pub each : (s : Slab) → In ss s → IsShifted old_first first end s
  pub lower : (s t : Slab) → In ss s → In ss t → s.from < t.from → IsLower s t
  pub same : (s t : Slab) → In ss s → In ss t → s.from ≡ t.from → s ≡ t

abbrev pub new_end : Header → Header → ℕ
new_end old new = end_of new (header_len new) old.records

pub record IsMoved (old new : Header) (file left : List ℕ) : Type 0 where
  pub long : length left ≡ max (length file) (new_end old new)
  pub head : take (header_len new) left ≡ canon new
  pub moved : (s : Slab) → In (slabs old new) s → (d : ℕ) → d < s.len → at left (s.to + d) ≡ at file (s.from + d)
  pub bare : (x : ℕ) → header_len new ≤ x → x < new_end old new
      → ((s : Slab) → In (slabs old new) s → (x < s.to) ⊎ (s.to + s.len ≤ x)) → at left x ≡ 0
  pub past : (x : ℕ) → new_end old new ≤ x → at left x ≡ at file x
