-- A redefinition that is accepted, and what an element reads before and after it. (own)
--     IsRedefinition old extras new      both headers are sound, and the new one is the old one with the extras
--     IsCounted header v index           the index is one of the variable's, in a record that the header counts
--     element_value header v index file  the element's value in a file with this header
use Rattle.std.specs.Prelude.{◌≡◌, ℕ, List, true}
use Rattle.nc_base.specs.declared.header.Header.{Header}
use Rattle.nc_base.specs.declared.header.Var.{Var}
use Rattle.nc_base.specs.declared.request.Value.{Value}
use Rattle.nc_base.specs.declared.script.Extra.{Extra}
use Rattle.serial_spec.specs.ExternalForm.{size_of, val}
use Rattle.serial_spec.specs.File.{read}
use Rattle.serial_spec.specs.Place.{IsIndex, place}
use Rattle.serial_spec.specs.Redefinition.{redefined_header}
use Rattle.serial_spec.specs.RegionCheck.{known_lengths}
use Rattle.serial_spec.specs.SoundHeaders.{is_sound}

pub record IsRedefinition (old : Header) (extras : List Extra) (new : Header) : Type 0 where
  pub old_sound : is_sound old ≡ true
  pub new_sound : is_sound new ≡ true
  pub made : new ≡ redefined_header old extras

abbrev pub IsCounted : Header → Var → List ℕ → Type 0
IsCounted header v index = IsIndex (known_lengths header v header.records) index

abbrev pub element_value : Header → Var → List ℕ → List ℕ → Value
element_value header v index file = val v.kind (read file (place header v index) (size_of v.kind))
