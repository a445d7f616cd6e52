-- What ncplan tells of a script: the plan of its run.
--     document json ..                 a plan as its text, or as its JSON document
--     TellsPlan json script header opening text    the text tells a plan from this opening on
--     Foretells script old header bytes plan       the plan is that of a run along its order, on a dataset that held these bytes
--     Planned json left left' held text            the text tells the plan of the run of the script that the source has
--     GaveWhole, GaveFront             it was given whole, or a front of it
use Rattle.std.specs.Prelude.{ℕ, ◌≡◌, Bool, true, false, List, [], ◌++◌, length, map, take, Option, IfSome}
use Rattle.nc_base.specs.declared.header.Header.{Header}
use Rattle.nc_base.specs.declared.script.Script.{Script}
use Rattle.nc_outside.specs.Told.{after, with_end}
use Rattle.serial_spec.specs.DeviceCalls.{all_calls}
use Rattle.serial_spec.specs.History.{IsLegal}
use Rattle.serial_spec.specs.Redefinition.{brought}
use Rattle.serial_spec.specs.SerialEnd.{End, serial, setting_of}
use Rattle.run_laws.specs.Arrivals.{first_stand}
use Rattle.script_spec.specs.ScriptGrammar.{Reads}
use Rattle.dataset_start.specs.Dataset.{AreHeadersOf}
use Rattle.run_plan.specs.Planned.{order_in, AreStepsOf}
use Rattle.run_plan.specs.Runs.{ranks_calls, without_values, IsPlanOf}
use Rattle.run_plan.specs.declared.run.Opening.{Opening}
use Rattle.run_plan.specs.declared.run.RunPlan.{RunPlan}
use Rattle.plan_sums.specs.Summed.{AreSums}
use Rattle.plan_sums.specs.declared.sums.Sums.{Sums}
use Rattle.plan_text.specs.PlanTexts.{plan_text_of}
use Rattle.plan_text.specs.JsonPlan.{plan_json_of}
use Rattle.plan_cli.specs.Opened.{file_at_start, MayHold}
use Rattle.plan_cli.specs.Outside.{Seen}

unfoldable pub document : Bool → Script → Header → ℕ → RunPlan → Sums → List ℕ
document true script header len plan sums = plan_json_of script header len plan sums
document false script header len plan sums = plan_text_of script header len plan sums

pub record TellsPlan (json : Bool) (script : Script) (header : Header) (opening : Opening) (text : List ℕ) : Type 0 where
  pub plan : RunPlan
  pub sums : Sums
  pub opened : plan.opening ≡ opening.calls
  pub planned : IsPlanOf script header opening.size plan
  pub summed : AreSums plan script.hints.striping_unit script.ranks script.hints.cb_nodes sums
  pub whole : text ≡ document json script header opening.size plan sums

-- what the calls lead to, done one after another in the order of the plan
abbrev pub planned_end : Script → Header → Header → List ℕ → RunPlan → End
planned_end script old header bytes plan = serial script header (brought script old header bytes) (order_in plan.steps)

-- The device calls are those of the run, from the opening to the close. Each step has the domains and windows of what its ranks ask for.
-- The answers, but for the values that gets give, the pending requests and the record count are those of the calls done one after another.
pub record Foretells (script : Script) (old header : Header) (bytes : List ℕ) (plan : RunPlan) : Type 0 where
  pub calls : plan.opening ++ ranks_calls plan ≡ all_calls script old header bytes (order_in plan.steps)
  pub each : AreStepsOf script.hints (setting_of script header) (first_stand header (file_at_start script old header bytes) script.calls) plan.steps
  pub answers : plan.answers ≡ map (map without_values) (planned_end script old header bytes plan).answers
  pub pending : plan.pending ≡ (planned_end script old header bytes plan).pending
  pub records : plan.records ≡ (planned_end script old header bytes plan).records

-- The script is the one that the source's text spells, which was taken to its end. Where it opens a dataset, the file is what that holds,
-- where it is told. The order of the plan is legal, and the plan is that of a run along it, on whatever a dataset held that the script
-- creates. The text tells this plan, and its sums.
pub record Planned (json : Bool) (left_before left_after held_before : Option (List ℕ)) (text : List ℕ) : Type 0 where
  pub script : Script
  pub old : Header
  pub header : Header
  pub file : List ℕ
  pub plan : RunPlan
  pub sums : Sums
  pub reads : IfSome left_before (λ text. Reads text script)
  pub taken : left_after ≡ after (λ _. []) left_before
  pub held : script.fresh ≡ false → IfSome held_before (λ bytes. bytes ≡ file)
  pub heads : AreHeadersOf script file old header
  pub legal : IsLegal script (order_in plan.steps)
  pub foretells : (bytes : List ℕ) → MayHold script file bytes → Foretells script old header bytes plan
  pub summed : AreSums plan script.hints.striping_unit script.ranks script.hints.cb_nodes sums
  pub whole : text ≡ document json script header (length (file_at_start script old header file)) plan sums

-- the text of a plan was given whole
pub record GaveWhole (json : Bool) (before now : Seen) : Type 0 where
  pub text : List ℕ
  pub planned : Planned json before.left now.left before.held text
  pub given : now.given ≡ with_end before.given text

-- a front of it was given
pub record GaveFront (json : Bool) (before now : Seen) : Type 0 where
  pub text : List ℕ
  pub count : ℕ
  pub planned : Planned json before.left now.left before.held text
  pub given : now.given ≡ with_end before.given (take count text)
