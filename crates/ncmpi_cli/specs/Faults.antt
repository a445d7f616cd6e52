-- What a fault of the disk, or want of memory, leaves of the dataset of a script.
--     IsCutFile script header fault file held order    the ranks began on the file, and this fault cut their run off behind these steps
--     WasCutOff fault before now order                  the same of the script that the source's text spells
--     EndsEarly fault before now order                  the dataset was not made ready, or the run of its ranks was cut off
--     WantsMemory before now order                      the same for want of memory, or all but the text was done
--     MadeEndsEarly, MadeWantsMemory                    the same two of a made script
use Rattle.std.specs.Prelude.{ℕ, ◌≡◌, ◌⊎◌, List, [], Option, Some, IfSome}
use Rattle.nc_base.specs.declared.answer.Answer.{Answer}
use Rattle.nc_base.specs.declared.header.Header.{Header}
use Rattle.nc_base.specs.declared.script.Script.{Script}
use Rattle.nc_base.specs.declared.step.Mark.{Mark}
use Rattle.nc_base.specs.declared.step.StepErr.{StepErr}
use Rattle.nc_base.specs.declared.step.StepErr.TheVariants.{Memory}
use Rattle.nc_outside.specs.Told.{BothTold}
use Rattle.serial_spec.specs.Torn.{IsCutRun}
use Rattle.ncmpi_cli.specs.Generated.{made_header, RanMade, script_made}
use Rattle.ncmpi_cli.specs.Headline.{file_at_start, HaveBegun, Ran}
use Rattle.ncmpi_cli.specs.Outside.{Output, Seen}
use Rattle.dataset_start.specs.Readiness.{IsLeftUnready, IsNotReady}

-- What is left of a file with which the ranks began, where their run was cut off: the bytes, the record count, and the answers of
-- each rank.
pub record IsCutFile (script : Script) (header : Header) (fault : StepErr) (file : List ℕ) (held_now : Option (List ℕ)) (order : List Mark) : Type 0 where
  pub left : List ℕ
  pub records : ℕ
  pub answers : List (List Answer)
  pub held : held_now ≡ Some left
  pub cut : IsCutRun script header file fault order left records answers

-- ---- the script that the source has

pub record WasCutOff (fault : StepErr) (before now : Seen) (order : List Mark) : Type 0 where
  pub begun : HaveBegun before now order
  pub cut : IfSome before.output.held
      (λ file. IsCutFile begun.start.script begun.start.header fault
      (file_at_start begun.start.script begun.start.old begun.start.header file) now.output.held order)

-- no step was done, as the dataset was not made ready, or the run was cut off behind these steps
abbrev pub EndsEarly : StepErr → Seen → Seen → List Mark → Type 0
EndsEarly fault before now order = ((order ≡ []) × IsLeftUnready before.left before.output.held now.output.held) ⊎ WasCutOff fault before now order

abbrev pub WantsMemory : Seen → Seen → List Mark → Type 0
WantsMemory before now order = EndsEarly Memory before now order ⊎ ((text : List ℕ) × Ran before now order [] text)

-- ---- a made script

module _ (seed size : ℕ) where
  abbrev pub IsMadeUnready : Option (List ℕ) → Option (List ℕ) → Type 0
  IsMadeUnready before now = BothTold (IsNotReady (script_made seed size)) before now

  abbrev pub MadeCutOff : StepErr → Output → Output → List Mark → Type 0
  MadeCutOff fault before now order =
      IfSome before.held
      (λ file. IsCutFile (script_made seed size) (made_header seed size) fault
      (file_at_start (script_made seed size) (made_header seed size) (made_header seed size) file) now.held order)

  abbrev pub MadeEndsEarly : StepErr → Output → Output → List Mark → Type 0
  MadeEndsEarly fault before now order = ((order ≡ []) × IsMadeUnready before.held now.held) ⊎ MadeCutOff fault before now order

  abbrev pub MadeWantsMemory : Output → Output → List Mark → Type 0
  MadeWantsMemory before now order = MadeEndsEarly Memory before now order ⊎ ((text : List ℕ) × RanMade seed size before now order text)
