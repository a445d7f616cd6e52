-- What a redefinition that is accepted starts from and makes. (own)
--     IsApplied old extras new      the extras can be added to the old header, and the new one has them and its begins
use Rattle.std.specs.Prelude.{◌≡◌, List, true, None}
use Rattle.std.specs.List.{list_all}
use Rattle.nc_base.specs.declared.header.Header.{Header}
use Rattle.nc_base.specs.declared.script.Extra.{Extra}
use Rattle.serial_spec.specs.Lawful.{is_lawful_extra, is_whole_extra}
use Rattle.serial_spec.specs.Redefinition.{redefined_fault, redefined_header}
use Rattle.serial_spec.specs.SoundHeaders.{is_redefinable}

pub record IsApplied (old : Header) (extras : List Extra) (new : Header) : Type 0 where
  pub redefinable : is_redefinable old ≡ true
  pub lawful : list_all is_lawful_extra extras ≡ true
  pub whole : list_all is_whole_extra extras ≡ true
  pub faultless : redefined_fault old extras ≡ None
  pub made : new ≡ redefined_header old extras
