-- The sums of a plan. (own)
--     all_calls plan                       its device calls: the opening, the ranks' steps, the close
--     AreSums plan unit ranks nodes sums   its sums for so many ranks and aggregators
use Rattle.std.specs.Prelude.{◌≡◌, ℕ, ◌-◌, List, ◌++◌}
use Rattle.std.specs.List.{count_by}
use Rattle.nc_base.specs.declared.request.Direction.TheVariants.{Put, Get}
use Rattle.nc_base.specs.declared.step.DiskCall.{DiskCall}
use Rattle.run_plan.specs.Planned.{calls_in}
use Rattle.run_plan.specs.Runs.{ranks_calls}
use Rattle.run_plan.specs.declared.run.RunPlan.{RunPlan}
use Rattle.plan_sums.specs.Cells.{cells_in}
use Rattle.plan_sums.specs.Naive.{asked_in, naive_sum}
use Rattle.plan_sums.specs.Tallies.{bytes_in, capped, is_growth, reads_in, tally_of, writes_in}
use Rattle.plan_sums.specs.declared.sums.Sums.{Sums}

abbrev pub all_calls : RunPlan → List DiskCall
all_calls plan = plan.opening ++ ranks_calls plan

-- A step reads or writes more than is asked for where a window has a hole; it may do less where ranks ask for one byte.
pub record AreSums (plan : RunPlan) (unit ranks nodes : ℕ) (sums : Sums) : Type 0 where
  pub grows : sums.grows ≡ capped (count_by is_growth (all_calls plan))
  pub reads : sums.reads ≡ tally_of unit (reads_in (all_calls plan))
  pub writes : sums.writes ≡ tally_of unit (writes_in (all_calls plan))
  pub naive_reads : sums.naive_reads ≡ naive_sum (asked_in Get plan.steps)
  pub naive_writes : sums.naive_writes ≡ naive_sum (asked_in Put plan.steps)
  pub read_over : sums.read_over ≡ capped (bytes_in (reads_in (calls_in plan.steps))) - sums.naive_reads.bytes
  pub written_over : sums.written_over ≡ capped (bytes_in (writes_in (calls_in plan.steps))) - sums.naive_writes.bytes
  pub matrix : sums.matrix ≡ cells_in plan.steps ranks nodes
