-- What a worker of a relocation keeps of a file, whether it is done or refused. (own)
--     IsOutside place n x     the byte is outside the n bytes from a place
--     IsUnmoved slabs x       it is outside the new place of each slab whose place changes
--     IsBeside gaps x         it is outside each gap, which is given by its place and length
--     IsKept P old left       the file is as long as it was, with the old bytes where P holds
use Rattle.std.specs.Prelude.{◌≡◌, ℕ, ◌+◌, ◌<◌, ◌≤◌, ◌⊎◌, List, length, IsTrue}
use Rattle.serial_spec.specs.DeviceCalls.{Slab}
use Rattle.serial_spec.specs.File.{at}
use Rattle.overlay_laws.specs.Entries.{In}
use Rattle.redef_laws.specs.RisingSlabs.{changes}

abbrev pub IsOutside : ℕ → ℕ → ℕ → Type 0
IsOutside place n x = (x < place) ⊎ (place + n ≤ x)

abbrev pub IsUnmoved : List Slab → ℕ → Type 0
IsUnmoved slabs x = (s : Slab) → In slabs s → IsTrue (changes s) → IsOutside s.to s.len x

abbrev pub IsBeside : List (ℕ × ℕ) → ℕ → Type 0
IsBeside gaps x = (g : ℕ × ℕ) → In gaps g → IsOutside g.0 g.1 x

pub record IsKept (P : ℕ → Type 0) (old left : List ℕ) : Type 0 where
  pub len : length left ≡ length old
  pub kept : (x : ℕ) → P x → at left x ≡ at old x
