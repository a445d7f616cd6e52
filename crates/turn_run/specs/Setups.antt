-- What a run is set up with, and how far it has come, in the words of its steps. (own)
--     setting_in setup                  the setting of its steps
--     at_next, all_at_next              a rank of its runner, and all, at their next offers
--     at_ask                            a rank at an offer that it makes alone
--     stage_at ..                       the stage that stands between two steps
--     point_at at held                  how far a run has come
--     HasGoneOn, HasLedOn               the steps that one rank, or all, added
--     IsCutAt, IsCutOff                 the same where a fault cut them off
--     HasSaidUpTo, AllSayUpTo, HaveSaidUpTo      the answers so far, where a fault cut them off
--     TellsOf, HasToldOn                what is told of the steps that were added
use Rattle.std.specs.Prelude.{◌≡◌, ℕ, List, Option, Some, slice_get}
use Rattle.nc_base.specs.declared.answer.Answer.{Answer}
use Rattle.nc_base.specs.declared.step.DiskCall.{DiskCall}
use Rattle.nc_base.specs.declared.step.Mark.{Mark}
use Rattle.nc_base.specs.declared.step.StepErr.{StepErr}
use Rattle.serial_spec.specs.FileStep.{Setting}
use Rattle.serial_spec.specs.SerialEnd.{setting_of}
use Rattle.run_laws.specs.Arrivals.{Arrived}
use Rattle.turn_run.specs.Cuts.{HasStopped, IsNext, MayFollow}
use Rattle.turn_run.specs.Said.{all_between, AllSay, HasReached, HaveAnswers, SaysAt}
use Rattle.turn_run.specs.Known.{point, Point}
use Rattle.turn_run.specs.Running.{asking, calls_of}
use Rattle.turn_run.specs.Stages.{arrived, arrived_all, stage, HasGone, HasLed, RankStage, Stage}
use Rattle.turn_run.specs.Told.{HasToldMore}
use Rattle.turn_run.specs.declared.lent.Progress.{Progress}
use Rattle.turn_run.specs.declared.lent.Setup.{Setup}
use Rattle.turn_run.specs.declared.runners.Ask.{Ask}
use Rattle.turn_run.specs.declared.runners.Runner.{Runner}

abbrev pub setting_in : Setup → Setting
setting_in setup = setting_of setup.script.now setup.header.now

abbrev pub at_next : Setup → ℕ → Runner → Arrived
at_next setup r runner = arrived setup.header.now (calls_of setup.script.now r) runner

abbrev pub at_ask : Setup → Ask → Runner → Arrived
at_ask setup ask runner = (asking (calls_of setup.script.now ask.number) runner, Some ask.offer)

abbrev pub all_at_next : Setup → List Runner → List Arrived
all_at_next setup runners = arrived_all setup.header.now setup.script.now.calls runners

abbrev pub stage_at : Setup → Option (List ℕ) → Option (List DiskCall) → Progress → List Runner → Stage
stage_at setup held calls at runners = stage held calls at.records (all_at_next setup runners)

-- how far a run has come on a file of these bytes, where they are told
abbrev pub point_at : Progress → Option (List ℕ) → Point
point_at at held = point at.order held at.records

-- ---- steps of one rank, from one next offer to another, whatever ranks stand beside it

abbrev pub HasGoneOn : Setup → ℕ → RankStage → RankStage → Type 0
HasGoneOn setup r a b = HasGone setup.script.now.hints (setting_in setup) r a b

-- a rank with its number, whatever count there is
abbrev pub IsCutAt : Setup → ℕ × Arrived → StepErr → Point → Point → Type 0
IsCutAt setup own fault from to = (records : ℕ) (ranks : List Arrived) → slice_get ranks own.0 ≡ Some own.1
    → HasStopped (MayFollow setup.script.now own.0 to.order) (setting_in setup) fault (point from.order from.held records) ranks (point to.order to.held records)

abbrev pub HasSaidUpTo : Setup → ℕ × Arrived → StepErr → Point → List Mark → List Answer → Type 0
HasSaidUpTo setup own fault from now answers = (records : ℕ) (ranks : List Arrived) → slice_get ranks own.0 ≡ Some own.1
    → HasReached (SaysAt own.0 fault answers) (setting_in setup) (point from.order from.held records) ranks now

abbrev pub TellsOf : Setup → ℕ × Arrived → Point → List Mark → Option (List (Mark × ℕ)) → Option (List (Mark × ℕ)) → Type 0
TellsOf setup own from now told heard = (ranks : List Arrived) → slice_get ranks own.0 ≡ Some own.1 → HasToldMore (setting_in setup) from ranks now told heard

-- ---- steps of all ranks, from one stage to another

abbrev pub HasLedOn : Setup → Progress → Progress → Stage → Stage → Type 0
HasLedOn setup before now a b = HasLed setup.script.now.hints (setting_in setup) before.order now.order a b

abbrev pub IsCutOff : Setup → StepErr → Point → List Runner → Point → Type 0
IsCutOff setup fault from runners to = HasStopped (IsNext setup.script.now to.order) (setting_in setup) fault from (all_at_next setup runners) to

abbrev pub HaveSaidUpTo : Setup → StepErr → Point → List Runner → List Mark → List Runner → Type 0
HaveSaidUpTo setup fault from runners now last = HaveAnswers (setting_in setup) fault from (all_between setup.script.now.calls runners) now last

-- all ranks in a meeting
abbrev pub AllSayUpTo : Setup → StepErr → Point → List Runner → List Mark → List Runner → Type 0
AllSayUpTo setup fault from runners now last = HasReached (AllSay fault last) (setting_in setup) from (all_at_next setup runners) now

abbrev pub HasToldOn : Setup → Point → List Runner → List Mark → Option (List (Mark × ℕ)) → Option (List (Mark × ℕ)) → Type 0
HasToldOn setup from runners now told heard = HasToldMore (setting_in setup) from (all_at_next setup runners) now told heard
