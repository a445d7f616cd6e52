-- What an element needs of a file.
use Rattle.std.specs.Prelude.{ℕ, ◌+◌, if◌then◌else◌, List}
use Rattle.nc_base.specs.declared.header.Header.{Header}
use Rattle.nc_base.specs.declared.header.Var.{Var}
use Rattle.serial_spec.specs.Layout.{is_record}
use Rattle.serial_spec.specs.Place.{record_of}

-- the element's record and all before it; none for a fixed variable
abbrev pub records_for : Header → Var → List ℕ → ℕ
records_for header var index = if is_record header var then record_of index + 1 else 0
