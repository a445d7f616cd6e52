-- How a dataset is made ready.
--     IsOpened held header                  the front of an existing file spells the header
--     filled_if, fill_calls_if              the fill of a new dataset, where it is asked for
--     dataset_end header                    where a dataset with this header ends
--     empty_end, blank_file header          where it ends without a record; a created dataset before it is filled
--     opened_calls header file              the device calls that open an existing dataset to which nothing is added
--     first_calls script old header file    the device calls before the ranks begin
--     IsFaultless script held               nothing is wrong with the dataset
--     IsReady script header ..              what is made of a dataset before the ranks begin
--     CanHaveBegun left left' held          a script was taken whole, and its dataset opened or laid out without a fault
--     IsCutRedefinition old new file left   what a redefinition that was cut off leaves of a file
--     IsTornOpening ..                      the same of the opening of an existing dataset, whose header is read
--     IsNotReady script file left           what stands of a dataset that was not made ready
--     IsPartlyReady script before now       the same, and nothing is wrong with the dataset
--     IsUnready, IsLeftUnready              the same, or nothing was done: of a script's dataset, or of the one that a text asks for
use Rattle.std.specs.Prelude.{ℕ, ◌==◌, ◌≡◌, ◌⊎◌, List, [], ◌++◌, length, Bool, true, false, Option, None, IfSome, if◌then◌else◌}
use Rattle.nc_base.specs.declared.header.Header.{Header}
use Rattle.nc_base.specs.declared.script.Extra.{Extra}
use Rattle.nc_base.specs.declared.script.Hints.{Hints}
use Rattle.nc_base.specs.declared.script.Script.{Script}
use Rattle.nc_base.specs.declared.step.DiskCall.{DiskCall}
use Rattle.nc_outside.specs.Told.{after, BothTold}
use Rattle.serial_spec.specs.DeviceCalls.{fill_calls, grow_to, head_load, opening_calls, redefining_calls}
use Rattle.serial_spec.specs.File.{longer}
use Rattle.serial_spec.specs.Fill.{filled}
use Rattle.serial_spec.specs.HeaderBytes.{canon, header_len}
use Rattle.serial_spec.specs.SoundHeaders.{is_sound}
use Rattle.serial_spec.specs.Layout.{end_of}
use Rattle.serial_spec.specs.Redefinition.{brought, redefined}
use Rattle.serial_spec.specs.SerialEnd.{start}
use Rattle.serial_spec.specs.Torn.{IsLengthened, IsTornCreation, IsTornRedefinition}
use Rattle.cdf_header.specs.Decoded.{BeginsWith}
use Rattle.redef_laws.specs.Applied.{IsApplied}
use Rattle.redef_laws.specs.Shifted.{new_end}
use Rattle.redef_mover.specs.Relocation.{KeepsPlaces}
use Rattle.dataset_start.specs.Dataset.{created_header, front, AreHeadersOf, Asks, IsLaid, IsSoundFile}

-- the front of what is held, or of some file where nothing is told, spells the header
pub record IsOpened (held : Option (List ℕ)) (header : Header) : Type 0 where
  pub file : List ℕ
  pub told : IfSome held (λ bytes. bytes ≡ file)
  pub count : ℕ
  pub begins : BeginsWith (front file) header count

-- where a dataset with this header ends
abbrev pub dataset_end : Header → ℕ
dataset_end header = end_of header (header_len header) header.records

-- the same without a record
abbrev pub empty_end : Header → ℕ
empty_end header = end_of header (header_len header) 0

-- a created dataset before it is filled: its header, and zeros up to its end
abbrev pub blank_file : Header → List ℕ
blank_file header = longer (canon header) (empty_end header)

abbrev pub filled_if : Bool → Header → List ℕ → List ℕ
filled_if asked header file = if asked then filled header file else file

abbrev pub fill_calls_if : Bool → Hints → Header → List DiskCall
fill_calls_if asked hints header = if asked then fill_calls hints header else []

abbrev pub opened_calls : Header → List ℕ → List DiskCall
opened_calls header file = head_load file ++ grow_to (length file) (dataset_end header)

-- the device calls before the ranks begin
abbrev pub first_calls : Script → Header → Header → List ℕ → List DiskCall
first_calls script old header file =
    elim (length script.extra == 0) [
      | true ↦ opening_calls script header file
      | false ↦ redefining_calls script.hints old header file
    ]

-- nothing is wrong with the dataset, as far as it is told
pub record IsFaultless (script : Script) (held : Option (List ℕ)) : Type 0 where
  pub created : IsLaid script
  pub opened : script.fresh ≡ false → IfSome held (IsSoundFile script)

-- What is made of a dataset before the ranks begin, and its header.
pub record IsReady (script : Script) (header : Header) (held_before held_after : Option (List ℕ)) (calls_before calls_after : Option (List DiskCall)) : Type 0 where
  pub old : Header
  pub file : List ℕ
  pub held : IfSome held_before (λ bytes. bytes ≡ file)
  pub heads : AreHeadersOf script file old header
  pub sound : is_sound header ≡ true
  pub faultless : IsFaultless script held_before
  pub bytes : held_after ≡ after (λ before. start script header (brought script old header before)) held_before
  pub calls : IfSome held_before (λ bytes. calls_after ≡ after (λ _. first_calls script old header bytes) calls_before)

-- The ranks can have begun: the source's text, which spells this script, was taken to its end, these are the headers of its
-- dataset, and nothing is wrong with it.
pub record CanHaveBegun (left_before left_after held_before : Option (List ℕ)) : Type 0 where
  pub script : Script
  pub old : Header
  pub header : Header
  pub file : List ℕ
  pub asks : Asks left_before script
  pub taken : left_after ≡ after (λ _. []) left_before
  pub held : IfSome held_before (λ bytes. bytes ≡ file)
  pub heads : AreHeadersOf script file old header
  pub faultless : IsFaultless script held_before

-- ---- a dataset that was not made ready

-- the new header is there in part, old bytes past the new end stay, and so do the values that have their place already
abbrev pub IsCutRedefinition : Header → Header → List ℕ → List ℕ → Type 0
IsCutRedefinition old new file left =
    IsTornRedefinition (header_len new) (new_end old new) file (redefined file old new) left × KeepsPlaces old new file left

-- a file as it was, or redefined in part
abbrev pub IsPartlyRedefined : Header → List Extra → List ℕ → List ℕ → Type 0
IsPartlyRedefined old extras file left = (left ≡ file) ⊎ ((new : Header) × IsApplied old extras new × IsCutRedefinition old new file left)

-- an existing dataset, whose first header is read: made longer in part or, where something is added to it, redefined in part
pub record IsTornOpening (script : Script) (old header : Header) (file left : List ℕ) : Type 0 where
  pub kept : (length script.extra == 0) ≡ true → IsLengthened (dataset_end header) file left
  pub moved : (length script.extra == 0) ≡ false → IsCutRedefinition old header file left

-- an existing dataset as it was, or opened in part
abbrev pub IsPartlyOpened : Script → List ℕ → List ℕ → Type 0
IsPartlyOpened script file left = (left ≡ file) ⊎ ((old : Header) × (header : Header) × AreHeadersOf script file old header × IsTornOpening script old header file left)

pub record IsNotReady (script : Script) (file left : List ℕ) : Type 0 where
  pub created : script.fresh ≡ true → IsTornCreation (canon (created_header script)) (start script (created_header script) file) file left
  pub opened : script.fresh ≡ false → IsPartlyOpened script file left

-- Nothing is wrong with the dataset of a script, and it was made ready in part.
pub record IsPartlyReady (script : Script) (before now : Option (List ℕ)) : Type 0 where
  pub faultless : IsFaultless script before
  pub left : BothTold (IsNotReady script) before now

-- nothing was done to the dataset of a script, or it was made ready in part
abbrev pub IsUnready : Script → Option (List ℕ) → Option (List ℕ) → Type 0
IsUnready script before now = (now ≡ before) ⊎ IsPartlyReady script before now

-- the same of the dataset that the source's text asks for
abbrev pub IsLeftUnready : Option (List ℕ) → Option (List ℕ) → Option (List ℕ) → Type 0
IsLeftUnready left before now = (now ≡ before) ⊎ ((script : Script) × Asks left script × IsPartlyReady script before now)
