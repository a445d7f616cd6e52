-- What a run of all ranks tells, in turn or on threads. (own)
--     IsRun script header old new count end
--         The run found the disk as `old` has it, and left it as `new` has it, with the record count `count`. Without a fault its order is one of the
--         script's histories, and all the rest is that of the serial run along it: bytes, device calls and the values that gets gave where
--         the bytes were told, and what a run over any file tells, whatever they were. With one, the order begins as the ranks' calls do,
--         `cut` says what is left, and no numbers of pending requests are told.
--     RunsOn disk script header old now count end
--         the same from a disk as it was to the disk as it is
--     HasCut script header held left count end
--         what a run with a fault leaves, where the bytes were told
use Rattle.std.specs.Prelude.{◌≡◌, ℕ, ◌≤◌, List, [], map, true, IfSome, None, Option, Some}
use Rattle.nc_base.specs.declared.header.Header.{Header}
use Rattle.nc_base.specs.declared.run.RunEnd.{RunEnd}
use Rattle.nc_base.specs.declared.script.Script.{Script}
use Rattle.nc_base.specs.declared.step.StepErr.{StepErr}
use Rattle.nc_base.specs.declared.step.StepErr.TheVariants.{Disk}
use Rattle.nc_outside.specs.Cause.{Rose}
use Rattle.nc_outside.specs.declared.disk.Disk.{Ghosts as DiskGhosts}
use Rattle.nc_outside.specs.Told.{with_end}
use Rattle.serial_spec.specs.DeviceCalls.{run_calls}
use Rattle.serial_spec.specs.SoundHeaders.{is_sound}
use Rattle.serial_spec.specs.History.{IsLegal}
use Rattle.serial_spec.specs.SerialEnd.{serial_from}
use Rattle.serial_spec.specs.Torn.{IsCutRun}
use Rattle.join_laws.specs.Alike.{blank}
use Rattle.turn_run.specs.Begun.{HasBegun}
use Rattle.turn_run.specs.Known.{seen_on, DiskSeen}

abbrev pub HasCut : Script → Header → Option (List ℕ) → Option (List ℕ) → ℕ → RunEnd → Type 0
HasCut script header held left count end =
    (e : StepErr) → end.fault ≡ Some e → IfSome held (λ file. (bytes : List ℕ) × (left ≡ Some bytes) × IsCutRun script header file e end.order bytes count end.answers)

pub record IsRun (script : Script) (header : Header) (old new : DiskSeen) (count : ℕ) (end : RunEnd) : Type 0 where
  pub legal : end.fault ≡ None → IsLegal script end.order
  pub bytes : end.fault ≡ None → IfSome old.held (λ file. new.held ≡ Some (serial_from script header file end.order).bytes)
  pub records : end.fault ≡ None → (file : List ℕ) → count ≡ (serial_from script header file end.order).records
  pub answers : end.fault ≡ None → IfSome old.held (λ file. end.answers ≡ (serial_from script header file end.order).answers)
  pub alike : end.fault ≡ None → (file : List ℕ) → map (map blank) end.answers ≡ map (map blank) (serial_from script header file end.order).answers
  pub pending : end.fault ≡ None → (file : List ℕ) → end.pending ≡ (serial_from script header file end.order).pending
  pub calls : end.fault ≡ None → IfSome old.held (λ file. new.calls ≡ with_end old.calls (run_calls script header file end.order))
  pub sound : end.fault ≡ None → is_sound (record header { records = count }) ≡ true
  pub begun : HasBegun script end.order
  pub fault : end.fault ≡ Some Disk → Rose old.faults new.faults
  pub later : old.faults ≤ new.faults
  pub cut : HasCut script header old.held new.held count end
  pub none_pending : (e : StepErr) → end.fault ≡ Some e → end.pending ≡ []

abbrev pub RunsOn : {D : Type 0} → DiskGhosts D → Script → Header → D → D → ℕ → RunEnd → Type 0
RunsOn disk script header old now count end = IsRun script header (seen_on disk old) (seen_on disk now) count end
