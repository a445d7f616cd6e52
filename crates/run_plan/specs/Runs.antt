-- The plan of a run.
--     without_values answer         an answer without the values that gets gave
--     greatest_known runners        the greatest record count that a rank knows
--     HasEnded ..                   a plan with its close
--     ranks_calls plan              the device calls of the ranks' steps and of the close
--     IsPlanOf script header size plan
--         The order of the plan is legal. For each file of so many bytes its steps are planned by the offers that the ranks hold there, its calls are
--         those of the run along that order, and so are the count, the pending numbers and, without values, the answers.
use Rattle.std.specs.Prelude.{◌≡◌, ℕ, max, List, ◌++◌, length, map, nat_lt, None}
use Rattle.nc_base.specs.declared.answer.Answer.{Answer}
use Rattle.nc_base.specs.declared.answer.Item.{Item}
use Rattle.nc_base.specs.declared.header.Header.{Header}
use Rattle.nc_base.specs.declared.script.Script.{Script}
use Rattle.nc_base.specs.declared.step.DiskCall.{DiskCall}
use Rattle.serial_spec.specs.DeviceCalls.{run_calls, store_records}
use Rattle.serial_spec.specs.History.{IsLegal}
use Rattle.serial_spec.specs.Layout.{greatest}
use Rattle.serial_spec.specs.RankMachine as machine
use Rattle.serial_spec.specs.SerialEnd.{serial_from, setting_of}
use Rattle.collective_round.specs.Rounds.{as_setting}
use Rattle.run_laws.specs.Arrivals.{first_stand}
use Rattle.step_plan.specs.Steps.{count_call}
use Rattle.turn_run.specs.declared.runners.Runner.{Runner}
use Rattle.run_plan.specs.Planned.{calls_in, order_in, AreStepsOf}
use Rattle.run_plan.specs.declared.run.RunPlan.{RunPlan}
use Rattle.run_plan.specs.declared.steps.Progress.{Progress}

abbrev pub item_without_values : Item → Item
item_without_values i = record i { values = None }

abbrev pub without_values : Answer → Answer
without_values a = record a { values = None; items = map item_without_values a.items }

abbrev pub greatest_known : List Runner → ℕ
greatest_known runners = greatest (map (λ runner. runner.rank.state.known) runners)

pub record HasEnded (header : Header) (opening : List DiskCall) (at : Progress) (runners : List Runner) (plan : RunPlan) : Type 0 where
  pub opening_kept : plan.opening ≡ opening
  pub steps : plan.steps ≡ at.steps
  pub close : count_call plan.close ≡ store_records (as_setting header) (nat_lt at.records (greatest_known runners))
  pub records : plan.records ≡ max at.records (greatest_known runners)
  pub answers : plan.answers ≡ map (λ runner. map without_values runner.answers) runners
  pub pending : plan.pending ≡ map (λ runner. machine.pending runner.rank.state) runners

abbrev pub ranks_calls : RunPlan → List DiskCall
ranks_calls plan = calls_in plan.steps ++ count_call plan.close

pub record IsPlanOf (script : Script) (header : Header) (size : ℕ) (plan : RunPlan) : Type 0 where
  pub legal : IsLegal script (order_in plan.steps)
  pub calls : (file : List ℕ) → length file ≡ size → ranks_calls plan ≡ run_calls script header file (order_in plan.steps)
  pub each : (file : List ℕ) → length file ≡ size → AreStepsOf script.hints (setting_of script header) (first_stand header file script.calls) plan.steps
  pub records : (file : List ℕ) → length file ≡ size → plan.records ≡ (serial_from script header file (order_in plan.steps)).records
  pub answers : (file : List ℕ) → length file ≡ size → plan.answers ≡ map (map without_values) (serial_from script header file (order_in plan.steps)).answers
  pub pending : (file : List ℕ) → length file ≡ size → plan.pending ≡ (serial_from script header file (order_in plan.steps)).pending
