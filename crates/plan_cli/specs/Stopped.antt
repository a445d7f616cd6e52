-- Why a plan ends early.
--     IsUnprepared script held named DatasetFailed stop    what is wrong with the dataset of a script
--     IsStoppedBy left held named Untouched SourceFailed DatasetFailed stop    what is wrong with the script that the source has, or with its dataset
use Rattle.std.specs.Prelude.{ℕ, ◌≡◌, ◌⊎◌, List, true, false, Option, Some, None, IfSome}
use Rattle.nc_base.specs.declared.script.Script as script_type
use Rattle.serial_spec.specs.HeaderFaults.{HasFault}
use Rattle.script_spec.specs.ScriptGrammar.{script_fault}
use Rattle.dataset_start.specs.Dataset.{creation_fault, front, Asks, HasRedefinitionFault}
use Rattle.dataset_start.specs.declared.stop.Stop.{Stop}
use Rattle.dataset_start.specs.declared.stop.Stop.TheVariants.{Usage, Script, Header, Layout, Redefinition, Source, Disk, Memory}

-- A created dataset can't be laid out; the header of an opened one is faulty, or refuses what is added; it can't be read, or has no name.
abbrev pub IsUnprepared : script_type.Script → Option (List ℕ) → Option (List ℕ) → Type 0 → Stop → Type 0
IsUnprepared script held named DatasetFailed (Layout e) = (script.fresh ≡ true) × (creation_fault script ≡ Some e)
IsUnprepared script held named DatasetFailed (Header e) = (script.fresh ≡ false) × IfSome held (λ file. HasFault (front file) e)
IsUnprepared script held named DatasetFailed (Redefinition e) = (script.fresh ≡ false) × IfSome held (λ file. HasRedefinitionFault script file e)
IsUnprepared script held named DatasetFailed Disk = (script.fresh ≡ false) × (DatasetFailed ⊎ (named ≡ None))
IsUnprepared script held named DatasetFailed Memory = Unit {0}
IsUnprepared script held named DatasetFailed _ = ⊥

-- The source failed, or its text has a fault; or the text asks for a dataset of which this is so. `Untouched` says that none was looked at.
abbrev pub IsStoppedBy : (left held named : Option (List ℕ)) (Untouched SourceFailed DatasetFailed : Type 0) → Stop → Type 0
IsStoppedBy left held named Untouched SourceFailed DatasetFailed Usage = ⊥
IsStoppedBy left held named Untouched SourceFailed DatasetFailed (Script e) = Untouched × IfSome left (λ text. script_fault text ≡ Some e)
IsStoppedBy left held named Untouched SourceFailed DatasetFailed Source = Untouched × SourceFailed
IsStoppedBy left held named Untouched SourceFailed DatasetFailed Memory = Unit {0}
IsStoppedBy left held named Untouched SourceFailed DatasetFailed stop =
    (script : script_type.Script) × (Asks left script × IsUnprepared script held named DatasetFailed stop × (script.fresh ≡ true → Untouched))
