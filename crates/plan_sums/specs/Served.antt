-- What an aggregator serves, as it is gathered. (own)
--     served_by steps aggregator    whose the bytes of its windows are, in all steps
--     cell_of rank served           the bytes of a rank among them
use Rattle.std.specs.Prelude.{ℕ, List}
use Rattle.nc_base.specs.declared.request.Direction.TheVariants.{Put, Get}
use Rattle.step_plan.specs.declared.plan.StepPlan.{StepPlan}
use Rattle.plan_sums.specs.Cells.{bytes_of, shares_by}
use Rattle.plan_sums.specs.declared.cells.Cell.{Cell}
use Rattle.plan_sums.specs.declared.cells.Served.{Served}

abbrev pub served_by : List StepPlan → ℕ → Served
served_by steps aggregator = record { aggregator = aggregator; puts = shares_by aggregator Put steps; gets = shares_by aggregator Get steps }

abbrev pub cell_of : ℕ → Served → Cell
cell_of rank served = record { rank = rank; aggregator = served.aggregator; put = bytes_of rank served.puts; got = bytes_of rank served.gets }
