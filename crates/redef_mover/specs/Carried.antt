-- A whole relocation: what it asks of two headers, what it makes of a file, and its device calls. (own)
--     IsCarriable old new            the slabs of the old variables lie one behind another in both files, below the new end, and move up or stay
--     carried old new file           the file, longer where it is too short, with its slabs at the new places, zeros in the gaps, and the new header
--     carry_calls z old new file     the calls, in windows of z bytes
--     IsPartlyCarried old new file left      what it leaves of a file where it is refused
--     rewritten, rewrite_calls, IsPartlyRewritten      the same, by the slabs, the bytes of the header and the end
use Rattle.std.specs.Prelude.{◌≡◌, ℕ, ◌+◌, ◌^◌, ◌<◌, ◌≤◌, max, ◌⊎◌, List, [], ◌∷◌, ◌++◌, length, reverse, true}
use Rattle.nc_base.specs.declared.header.Header.{Header}
use Rattle.nc_base.specs.declared.step.DiskCall.{DiskCall}
use Rattle.nc_base.specs.declared.step.DiskCall.TheVariants.{Store}
use Rattle.serial_spec.specs.DeviceCalls.{Slab, grow_to}
use Rattle.serial_spec.specs.File.{at, longer, written}
use Rattle.serial_spec.specs.HeaderBytes.{canon, header_len}
use Rattle.serial_spec.specs.SoundHeaders.{is_sound, is_writable}
use Rattle.overlay_laws.specs.Entries.{In}
use Rattle.redef_laws.specs.RisingSlabs.{gaps, rising, IsRisen}
use Rattle.redef_laws.specs.Shifted.{new_end}
use Rattle.redef_mover.specs.Moves.{all_calls, all_cleared, all_moved, gap_calls}

pub record IsCarriable (old new : Header) : Type 0 where
  pub sound : is_sound old ≡ true
  pub writable : is_writable new ≡ true
  pub low : new_end old new < 2 ^ 62
  pub risen : IsRisen (header_len old) (header_len new) (rising old new)
  pub inside : (s : Slab) → In (rising old new) s → s.to + s.len ≤ new_end old new

-- ---- with its slabs at the new places, in a file that ends at `end`, and with these bytes at its front

abbrev pub rewritten : List Slab → List ℕ → ℕ → List ℕ → List ℕ
rewritten ss head end file = written (all_cleared (all_moved (longer file end) (reverse ss)) (gaps (length head) end ss)) 0 head

-- so many bytes at the front
abbrev pub rewrite_calls : ℕ → List Slab → ℕ → ℕ → List ℕ → List DiskCall
rewrite_calls z ss n end file = grow_to (length file) end ++ all_calls z (reverse ss) ++ gap_calls z (gaps n end ss) ++ Store 0 n ∷ []

-- At the front each byte is old or the new one; bytes past the end stay, and those of each slab that has its place already.
pub record IsPartlyRewritten (ss : List Slab) (front : List ℕ) (end : ℕ) (file left : List ℕ) : Type 0 where
  pub long : length file ≤ length left
  pub short : length left ≤ max (length file) end
  pub head : (x : ℕ) → x < length front → (at left x ≡ at file x) ⊎ (at left x ≡ at front x)
  pub past : (x : ℕ) → end ≤ x → at left x ≡ at file x
  pub stays : (s : Slab) → In ss s → s.from ≡ s.to → (x : ℕ) → s.to ≤ x → x < s.to + s.len → at left x ≡ at file x

-- ---- the same of two headers

abbrev pub carried : Header → Header → List ℕ → List ℕ
carried old new file = rewritten (rising old new) (canon new) (new_end old new) file

abbrev pub carry_calls : ℕ → Header → Header → List ℕ → List DiskCall
carry_calls z old new file = rewrite_calls z (rising old new) (header_len new) (new_end old new) file

abbrev pub IsPartlyCarried : Header → Header → List ℕ → List ℕ → Type 0
IsPartlyCarried old new file left = IsPartlyRewritten (rising old new) (canon new) (new_end old new) file left
