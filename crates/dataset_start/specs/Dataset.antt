-- The dataset that a script asks for, and what refuses it.
--     AreHeadersOf script file old header    the first header of the dataset, and the one with which the ranks run
--     creation_fault, redefinition_fault     why a dataset can't be laid out, or can't be added to
--     IsSoundFile, IsFaultyFile              whether an existing file can be opened as the script asks
--     TellsScript, TellsDataset              the line tells what is wrong with the text, or with the dataset that it asks for
--     IsRight, IsWrong                       whether something is wrong with the dataset
--     IsLaid, AsksForBadLayout               the layout of a created one has no fault; the text asks for one that has a fault
use Rattle.std.specs.Prelude.{ℕ, ◌^◌, ◌==◌, ◌≡◌, ◌⊎◌, true, false, List, take, length, Option, Some, None, IfSome, IsSomeAnd}
use Rattle.nc_base.specs.declared.errors.HeaderErr.{HeaderErr}
use Rattle.nc_base.specs.declared.errors.LayoutErr.{LayoutErr}
use Rattle.nc_base.specs.declared.errors.RedefErr.{RedefErr}
use Rattle.nc_base.specs.declared.errors.ScriptErr.{ScriptErr}
use Rattle.nc_base.specs.declared.header.Header.{Header}
use Rattle.nc_base.specs.declared.script.Align.{Align}
use Rattle.nc_base.specs.declared.script.Hints.{Hints}
use Rattle.nc_base.specs.declared.script.Script.{Script}
use Rattle.serial_spec.specs.Layout.{begins}
use Rattle.serial_spec.specs.HeaderBytes.{header_len}
use Rattle.serial_spec.specs.HeaderFaults.{HasFault}
use Rattle.serial_spec.specs.Lawful.{has_whole_attrs, is_lawful}
use Rattle.serial_spec.specs.Redefinition.{layout_fault, redefined_fault, redefined_header}
use Rattle.var_layout.specs.Unplaced.{has_writable_parts, is_unplaced}
use Rattle.cdf_header.specs.Decoded.{BeginsWith}
use Rattle.script_spec.specs.ScriptGrammar.{Reads, script_fault}
use Rattle.script_spec.specs.Texts.{header_line, layout_line, redef_line, script_line}

-- ---- the dataset that a script asks for

abbrev pub align_of : Hints → Align
align_of hints = record { header = hints.header_align; var = hints.var_align }

-- the header of the dataset that a script creates
abbrev pub created_header : Script → Header
created_header script = begins script.header (align_of script.hints) (header_len script.header)

-- the first bytes of a file, in which its header stands
abbrev pub front : List ℕ → List ℕ
front file = take (2 ^ 20) file

-- the header with which the ranks run, from the first one
abbrev pub header_of_run : Script → Header → Header
header_of_run script old = elim (length script.extra == 0) [ true ↦ old | false ↦ redefined_header old script.extra ]

-- The first header of a created dataset is that which its script lays out, of an opened one that which the front of its file
-- spells. The ranks run with what the script adds to it.
pub record AreHeadersOf (script : Script) (file : List ℕ) (old header : Header) : Type 0 where
  pub created : script.fresh ≡ true → old ≡ created_header script
  pub opened : script.fresh ≡ false → (n : ℕ) × BeginsWith (front file) old n
  pub made : header ≡ header_of_run script old

-- ---- what refuses a script or a dataset

-- the text has a fault
abbrev pub IsFaultyText : List ℕ → Type 0
IsFaultyText text = (e : ScriptErr) × (script_fault text ≡ Some e)

-- the line tells it
abbrev pub TellsScript : Option (List ℕ) → List ℕ → Type 0
TellsScript left line = (e : ScriptErr) × (IfSome left (λ text. script_fault text ≡ Some e) × (line ≡ script_line e))

-- some text spells the script
abbrev pub IsRead : Script → Type 0
IsRead script = (text : List ℕ) × Reads text script

-- what a script keeps that was read or made
pub record IsKept (script : Script) : Type 0 where
  pub lawful : is_lawful script ≡ true
  pub whole : has_whole_attrs script ≡ true
  pub unplaced : script.fresh ≡ true → is_unplaced script.header ≡ true
  pub writable : script.fresh ≡ true → has_writable_parts script.header ≡ true

-- the text is that of this script
abbrev pub Asks : Option (List ℕ) → Script → Type 0
Asks left script = IfSome left (λ text. Reads text script)

-- why the dataset that the script creates can't be laid out
abbrev pub creation_fault : Script → Option LayoutErr
creation_fault script = layout_fault script.header (align_of script.hints)

-- why a dataset with this header refuses what the script adds to it
abbrev pub redefinition_fault : Script → Header → Option RedefErr
redefinition_fault script old = elim (length script.extra == 0) [ true ↦ None | false ↦ redefined_fault old script.extra ]

-- the header that the front of a file spells refuses what the script adds to it
pub record HasRedefinitionFault (script : Script) (file : List ℕ) (e : RedefErr) : Type 0 where
  pub old : Header
  pub count : ℕ
  pub begins : BeginsWith (front file) old count
  pub refuses : redefinition_fault script old ≡ Some e

-- nothing is wrong with an existing file: neither with its header, nor with its redefinition
pub record IsSoundFile (script : Script) (file : List ℕ) : Type 0 where
  pub header : (e : HeaderErr) → HasFault (front file) e → ⊥
  pub redefinition : (e : RedefErr) → HasRedefinitionFault script file e → ⊥

-- something is
abbrev pub IsFaultyFile : Script → List ℕ → Type 0
IsFaultyFile script file = ((e : HeaderErr) × HasFault (front file) e) ⊎ ((e : RedefErr) × HasRedefinitionFault script file e)

-- the line tells what is wrong with a header
abbrev pub TellsHeader : Option (List ℕ) → List ℕ → Type 0
TellsHeader held line = (e : HeaderErr) × (IfSome held (λ file. HasFault (front file) e) × (line ≡ header_line e))

-- the line tells what is wrong with a redefinition
abbrev pub TellsRedefinition : Script → Option (List ℕ) → List ℕ → Type 0
TellsRedefinition script held line = (e : RedefErr) × (IfSome held (λ file. HasRedefinitionFault script file e) × (line ≡ redef_line e))

-- The line tells what is wrong with a dataset: with the layout of a created one, with the header of an opened one or with its
-- redefinition.
pub record TellsDataset (script : Script) (held : Option (List ℕ)) (line : List ℕ) : Type 0 where
  pub created : script.fresh ≡ true → (e : LayoutErr) × ((creation_fault script ≡ Some e) × (line ≡ layout_line e))
  pub opened : script.fresh ≡ false → TellsHeader held line ⊎ TellsRedefinition script held line

-- The line tells what is wrong with the dataset that a text asks for; one that is to be created is untouched.
pub record IsBadDataset (left held : Option (List ℕ)) (Untouched : Type 0) (line : List ℕ) : Type 0 where
  pub script : Script
  pub asks : Asks left script
  pub tells : TellsDataset script held line
  pub unlaid : script.fresh ≡ true → Untouched

-- nothing is wrong with the layout of a dataset that is to be created
abbrev pub IsLaid : Script → Type 0
IsLaid script = script.fresh ≡ true → creation_fault script ≡ None

-- nothing is wrong with a dataset, which is told where it is opened
pub record IsRight (script : Script) (held : Option (List ℕ)) : Type 0 where
  pub created : IsLaid script
  pub opened : script.fresh ≡ false → IsSomeAnd held (IsSoundFile script)

-- something is wrong with it
pub record IsWrong (script : Script) (held : Option (List ℕ)) : Type 0 where
  pub created : script.fresh ≡ true → (e : LayoutErr) × (creation_fault script ≡ Some e)
  pub opened : script.fresh ≡ false → IsSomeAnd held (IsFaultyFile script)

-- the text asks for a dataset of which this is so
abbrev pub AsksFor : (Script → Option (List ℕ) → Type 0) → List ℕ → Option (List ℕ) → Type 0
AsksFor P text held = (script : Script) × Reads text script × P script held

-- a dataset that is to be created can't be laid out
pub record IsMislaid (script : Script) : Type 0 where
  pub created : script.fresh ≡ true
  pub fault : LayoutErr
  pub refuses : creation_fault script ≡ Some fault

-- the text asks for such a dataset
abbrev pub AsksForBadLayout : List ℕ → Type 0
AsksForBadLayout text = (script : Script) × Reads text script × IsMislaid script

-- ---- before anything is done

-- the statuses before the dataset is started
abbrev pub IsBeforeStart : ℕ → Type 0
IsBeforeStart status = (status ≡ 2) ⊎ ((status ≡ 3) ⊎ (status ≡ 5))
