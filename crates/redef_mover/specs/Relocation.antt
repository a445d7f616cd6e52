-- The device calls by which a file becomes the redefined one, and what is kept where they are cut off. (own)
use Rattle.std.specs.Prelude.{◌≡◌, ℕ, ◌+◌, ◌<◌, List, [], ◌∷◌, ◌++◌, length}
use Rattle.nc_base.specs.declared.header.Header.{Header}
use Rattle.nc_base.specs.declared.step.DiskCall.{DiskCall}
use Rattle.nc_base.specs.declared.step.DiskCall.TheVariants.{Store}
use Rattle.serial_spec.specs.DeviceCalls.{Slab, grow_to, move_calls, slabs, zero_calls}
use Rattle.serial_spec.specs.File.{at}
use Rattle.serial_spec.specs.HeaderBytes.{header_len}
use Rattle.overlay_laws.specs.Entries.{In}
use Rattle.redef_laws.specs.Shifted.{new_end}

-- The file grows where it is shorter; then the moves, the zeros, and the header, which is stored last.
abbrev pub relocation_calls : ℕ → Header → Header → List ℕ → List DiskCall
relocation_calls z old new file =
    grow_to (length file) (new_end old new) ++ move_calls z old new ++ zero_calls z old new ++ Store 0 (header_len new) ∷ []

-- Each byte of an old element that has its place already is as before.
abbrev pub KeepsPlaces : Header → Header → List ℕ → List ℕ → Type 0
KeepsPlaces old new file left =
    (s : Slab) → In (slabs old new) s → s.from ≡ s.to → (d : ℕ) → d < s.len → at left (s.to + d) ≡ at file (s.from + d)
