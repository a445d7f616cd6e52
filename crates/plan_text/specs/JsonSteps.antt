-- What a plan's JSON document tells of the steps. (own)
--     device_call c                       a device call
--     caller_object script plan c         a call that comes together with others: its word, and what it is answered
--     phase_object phase                  the puts or the gets of a step: what is asked for, domains, windows, and whose the bytes are
--     step_object script plan step        a step, with all its device calls in order
use Rattle.std.specs.Prelude.{ℕ, List, [], ◌∷◌, ◌++◌, not, slice_get, codes}
use Rattle.nc_base.specs.declared.answer.Pair.{Pair}
use Rattle.nc_base.specs.declared.script.Script.{Script}
use Rattle.nc_base.specs.declared.step.DiskCall.{DiskCall}
use Rattle.nc_base.specs.declared.step.DiskCall.TheVariants.{Grow, Load, Store}
use Rattle.serial_spec.specs.History.{is_meeting}
use Rattle.script_spec.specs.Texts.{mark_word}
use Rattle.window_plan.specs.Windows.{shares_in}
use Rattle.window_plan.specs.declared.plan.Owner.{Owner}
use Rattle.window_plan.specs.declared.plan.Share.{Share}
use Rattle.window_plan.specs.declared.plan.WindowPlan.{WindowPlan}
use Rattle.step_plan.specs.declared.plan.Asked.{Asked}
use Rattle.step_plan.specs.declared.plan.Caller.{Caller}
use Rattle.step_plan.specs.declared.plan.DomainPlan.{DomainPlan}
use Rattle.step_plan.specs.declared.plan.FilePlan.{FilePlan}
use Rattle.step_plan.specs.declared.plan.Phase.{Phase}
use Rattle.step_plan.specs.declared.plan.StepPlan.{StepPlan}
use Rattle.step_plan.specs.Steps.{file_calls}
use Rattle.run_plan.specs.declared.run.RunPlan.{RunPlan}
use Rattle.plan_text.specs.Json.{array_of, json_array, json_number, json_object, json_text, json_truth, member, or_null}
use Rattle.plan_text.specs.PlanWords.{end_place, outcome_in, word_in}

-- ---- device calls

abbrev pub transfer : List ℕ → ℕ → ℕ → List ℕ
transfer word place length =
    json_object (member "call" (json_text word) ∷ member "place" (json_number place) ∷ member "length" (json_number length) ∷ [])

abbrev pub device_call : DiskCall → List ℕ
device_call (Grow size) = json_object (member "call" (json_text (codes "grow")) ∷ member "length" (json_number size) ∷ [])
device_call (Load place length) = transfer (codes "read") place length
device_call (Store place length) = transfer (codes "write") place length

-- ---- windows and domains

abbrev pub share_object : Share → List ℕ
share_object s = json_object (member "rank" (json_number s.rank) ∷ member "bytes" (json_number s.bytes) ∷ [])

-- a piece: its rank, its first byte, and the byte behind its last one
abbrev pub piece_array : Owner → List ℕ
piece_array o = json_array (json_number o.rank ∷ json_number o.extent.at ∷ json_number (end_place o.extent) ∷ [])

abbrev pub window_object : WindowPlan → List ℕ
window_object w =
    json_object (
    member "from" (json_number w.hull.at)
    ∷ member "to" (json_number (end_place w.hull))
    ∷ member "hole" (json_truth (not w.full))
    ∷ member "shares" (array_of share_object (shares_in w.owners))
    ∷ member "pieces" (array_of piece_array w.owners)
    ∷ []
    )

abbrev pub domain_object : DomainPlan → List ℕ
domain_object d =
    json_object (
    member "aggregator" (or_null json_number d.aggregator)
    ∷ member "from" (json_number d.extent.at)
    ∷ member "to" (json_number (end_place d.extent))
    ∷ member "windows" (array_of window_object d.windows)
    ∷ []
    )

abbrev pub asked_object : Asked → List ℕ
asked_object a = json_object (member "rank" (json_number a.rank) ∷ member "bytes" (json_number a.bytes) ∷ member "pieces" (json_number a.pieces) ∷ [])

abbrev pub phase_object : Phase → List ℕ
phase_object phase = json_object (member "asked" (array_of asked_object phase.asked) ∷ member "domains" (array_of domain_object phase.domains) ∷ [])

-- ---- calls and their answers

abbrev pub caller_object : Script → RunPlan → Caller → List ℕ
caller_object script plan c =
    json_object (
    member "rank" (json_number c.rank)
    ∷ member "call" (json_number c.call)
    ∷ member "name" (json_text (word_in (slice_get script.calls c.rank) c.call))
    ∷ member "answer" (json_text (outcome_in (slice_get plan.answers c.rank) c.call))
    ∷ []
    )

-- ---- a step

-- two requests that share a byte, and the byte's place
abbrev pub overlap_object : Pair → List ℕ
overlap_object p =
    json_object (
    member "ranks" (json_array (json_number p.rank1 ∷ json_number p.rank2 ∷ []))
    ∷ member "ids" (json_array (json_number p.request1 ∷ json_number p.request2 ∷ []))
    ∷ member "byte" (json_number p.at)
    ∷ []
    )

-- the mark of a step, and the calls that come together in it
abbrev pub call_members : Script → RunPlan → StepPlan → List (List ℕ)
call_members script plan step =
    member "mark" (json_text (mark_word step.mark))
    ∷ member "collective" (json_truth (is_meeting step.mark))
    ∷ member "calls" (array_of (caller_object script plan) step.callers)
    ∷ []

-- what it does to the file
abbrev pub file_members : FilePlan → List (List ℕ)
file_members file =
    member "overlap" (or_null overlap_object file.overlap)
    ∷ member "put" (phase_object file.puts)
    ∷ member "get" (phase_object file.gets)
    ∷ member "device" (array_of device_call (file_calls file))
    ∷ []

abbrev pub step_object : Script → RunPlan → StepPlan → List ℕ
step_object script plan step = json_object (call_members script plan step ++ file_members step.file)
