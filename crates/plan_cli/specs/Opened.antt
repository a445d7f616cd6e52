-- What is known of a dataset, of which the front alone is read, when its ranks could begin.
--     IsOpenedFile held header size              the front of an existing file of so many bytes spells the header
--     MayHold script file bytes                  the dataset may have held these bytes: any, where the script creates it, or those of the file
--     file_at_start script old header bytes      the file when the ranks begin
--     IsOpening script seen header opening       the headers of a script's dataset, and the device calls that make it ready for the ranks
use Rattle.std.specs.Prelude.{ℕ, ◌≡◌, List, true, false, length, Option, IfSome}
use Rattle.nc_base.specs.declared.header.Header.{Header}
use Rattle.nc_base.specs.declared.script.Script.{Script}
use Rattle.serial_spec.specs.Redefinition.{brought}
use Rattle.serial_spec.specs.SerialEnd.{start}
use Rattle.serial_spec.specs.SoundHeaders.{is_sound}
use Rattle.cdf_header.specs.Decoded.{BeginsWith}
use Rattle.dataset_start.specs.Dataset.{front, AreHeadersOf}
use Rattle.dataset_start.specs.Readiness.{first_calls, IsFaultless}
use Rattle.run_plan.specs.declared.run.Opening.{Opening}

pub record IsOpenedFile (held : Option (List ℕ)) (header : Header) (size : ℕ) : Type 0 where
  pub file : List ℕ
  pub told : IfSome held (λ bytes. bytes ≡ file)
  pub long : size ≡ length file
  pub count : ℕ
  pub begins : BeginsWith (front file) header count

abbrev pub MayHold : Script → List ℕ → List ℕ → Type 0
MayHold script file bytes = script.fresh ≡ false → bytes ≡ file

abbrev pub file_at_start : Script → Header → Header → List ℕ → List ℕ
file_at_start script old header bytes = start script header (brought script old header bytes)

pub record IsOpening (script : Script) (seen : Option (List ℕ)) (header : Header) (opening : Opening) : Type 0 where
  pub old : Header
  pub file : List ℕ
  pub held : script.fresh ≡ false → IfSome seen (λ bytes. bytes ≡ file)
  pub heads : AreHeadersOf script file old header
  pub sound : is_sound header ≡ true
  pub faultless : IsFaultless script seen
  pub calls : (bytes : List ℕ) → MayHold script file bytes → opening.calls ≡ first_calls script old header bytes
  pub size : (bytes : List ℕ) → MayHold script file bytes → opening.size ≡ length (file_at_start script old header bytes)
