-- What each early end becomes.
use Rattle.std.specs.Prelude.{ℕ, ◌==◌, List, Option, Some, None, if◌then◌else◌}
use Rattle.nc_base.specs.declared.errors.HeaderErr.{HeaderErr}
use Rattle.nc_base.specs.declared.errors.HeaderErr.TheVariants as header
use Rattle.nc_base.specs.declared.errors.RedefErr.{RedefErr}
use Rattle.nc_base.specs.declared.errors.RedefErr.TheVariants as redefinition
use Rattle.nc_base.specs.declared.errors.ScriptErr.{ScriptErr}
use Rattle.nc_base.specs.declared.errors.ScriptKind.{ScriptKind}
use Rattle.nc_base.specs.declared.errors.ScriptKind.TheVariants as kind
use Rattle.nc_base.specs.declared.step.StepErr.{StepErr}
use Rattle.nc_base.specs.declared.step.StepErr.TheVariants as step
use Rattle.script_spec.specs.Texts.{disk_line, header_line, layout_line, redef_line, script_line, usage_line}
use Rattle.dataset_start.specs.declared.streams.TakeErr.{TakeErr}
use Rattle.dataset_start.specs.declared.streams.TakeErr.TheVariants as take
use Rattle.dataset_start.specs.declared.stop.Stop.{Stop}
use Rattle.dataset_start.specs.declared.stop.Stop.TheVariants.{Usage, Script, Header, Layout, Redefinition, Source, Disk, Memory}

abbrev pub stop_of_disk : StepErr → Stop
stop_of_disk step.Disk = Disk
stop_of_disk step.Memory = Memory

abbrev pub stop_of_take : TakeErr → Stop
stop_of_take take.Fault = Source
stop_of_take take.Memory = Memory

abbrev pub stop_of_header : HeaderErr → Stop
stop_of_header header.Memory = Memory
stop_of_header e = Header e

abbrev pub stop_of_redefinition : RedefErr → Stop
stop_of_redefinition redefinition.Memory = Memory
stop_of_redefinition e = Redefinition e

abbrev pub stop_of_kind : ScriptErr → ScriptKind → Stop
stop_of_kind e kind.Memory = Memory
stop_of_kind e _ = Script e

abbrev pub stop_of_script : ScriptErr → Stop
stop_of_script e = stop_of_kind e e.kind

abbrev pub status_of : Stop → ℕ
status_of Usage = 2
status_of (Script e) = 3
status_of (Header e) = 4
status_of (Layout e) = 4
status_of (Redefinition e) = 4
status_of Source = 5
status_of Disk = 7
status_of Memory = 8

-- the line that tells a stop
abbrev pub line_of : Stop → Option (List ℕ)
line_of Usage = Some usage_line
line_of (Script e) = Some (script_line e)
line_of (Header e) = Some (header_line e)
line_of (Layout e) = Some (layout_line e)
line_of (Redefinition e) = Some (redef_line e)
line_of Source = None
line_of Disk = Some disk_line
line_of Memory = None

-- the line of a status that has one line
abbrev pub line_of_status : ℕ → Option (List ℕ)
line_of_status status = if status == 2 then Some usage_line else (if status == 7 then Some disk_line else None)

-- the line of a stop that has always the same one
abbrev pub fixed_line_of : Stop → Option (List ℕ)
fixed_line_of Usage = Some usage_line
fixed_line_of Disk = Some disk_line
fixed_line_of _ = None

-- taking the script ends early by these alone
abbrev pub IsOfTaking : Stop → Type 0
IsOfTaking (Script e) = Unit {0}
IsOfTaking Source = Unit {0}
IsOfTaking Memory = Unit {0}
IsOfTaking _ = ⊥

-- laying out ends early by these alone
abbrev pub IsOfLayout : Stop → Type 0
IsOfLayout (Layout e) = Unit {0}
IsOfLayout Memory = Unit {0}
IsOfLayout _ = ⊥

-- redefining ends early by these alone
abbrev pub IsOfRedefinition : Stop → Type 0
IsOfRedefinition (Redefinition e) = Unit {0}
IsOfRedefinition Disk = Unit {0}
IsOfRedefinition Memory = Unit {0}
IsOfRedefinition _ = ⊥

-- reading a header ends early by these alone
abbrev pub IsOfHeader : Stop → Type 0
IsOfHeader (Header e) = Unit {0}
IsOfHeader Disk = Unit {0}
IsOfHeader Memory = Unit {0}
IsOfHeader _ = ⊥

-- opening ends early by these alone
abbrev pub IsOfOpening : Stop → Type 0
IsOfOpening (Header e) = Unit {0}
IsOfOpening (Redefinition e) = Unit {0}
IsOfOpening Disk = Unit {0}
IsOfOpening Memory = Unit {0}
IsOfOpening _ = ⊥

-- making the dataset ready ends early by these alone
abbrev pub IsOfDataset : Stop → Type 0
IsOfDataset (Header e) = Unit {0}
IsOfDataset (Layout e) = Unit {0}
IsOfDataset (Redefinition e) = Unit {0}
IsOfDataset Disk = Unit {0}
IsOfDataset Memory = Unit {0}
IsOfDataset _ = ⊥
