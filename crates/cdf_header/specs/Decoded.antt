-- The header that bytes begin with.
use Rattle.std.specs.Prelude.{◌≡◌, ◌≤◌, ℕ, List, take, length, None}
use Rattle.nc_base.specs.declared.header.Header.{Header}
use Rattle.serial_spec.specs.HeaderGrammar.{Spells}
use Rattle.serial_spec.specs.HeaderFaults.{field_fault, first_check}

-- The first n bytes spell the header, and nothing is wrong with any field of it or with the whole of it.
abbrev pub BeginsWith : List ℕ → Header → ℕ → Type 0
BeginsWith bytes header n = Spells header (take n bytes) × (field_fault bytes ≡ None) × (first_check header ≡ None) × (n ≤ length bytes)
