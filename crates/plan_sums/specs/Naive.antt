-- What ranks ask for: naive I/O makes one call for each piece. (Thakur, Gropp and Lusk, "Data Sieving and Collective I/O in ROMIO", 1999)
--     phase_of direction step      the puts or the gets of a step
--     asked_in direction steps     what the ranks ask for by them, in all steps
--     naive_sum asked              how many pieces this is, and how many bytes
use Rattle.std.specs.Prelude.{List, flat_map}
use Rattle.std.specs.List.{sum_by}
use Rattle.nc_base.specs.declared.request.Direction.{Direction}
use Rattle.nc_base.specs.declared.request.Direction.TheVariants.{Put, Get}
use Rattle.step_plan.specs.declared.plan.Asked.{Asked}
use Rattle.step_plan.specs.declared.plan.Phase.{Phase}
use Rattle.step_plan.specs.declared.plan.StepPlan.{StepPlan}
use Rattle.plan_sums.specs.Tallies.{capped}
use Rattle.plan_sums.specs.declared.naive.Naive.{Naive}

abbrev pub phase_of : Direction → StepPlan → Phase
phase_of Put step = step.file.puts
phase_of Get step = step.file.gets

abbrev pub asked_in : Direction → List StepPlan → List Asked
asked_in direction steps = flat_map (λ step. (phase_of direction step).asked) steps

abbrev pub naive_sum : List Asked → Naive
naive_sum asked = record { calls = capped (sum_by (λ a. a.pieces) asked); bytes = capped (sum_by (λ a. a.bytes) asked) }
