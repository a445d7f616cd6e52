-- What goes between ranks and aggregators. (own)
--     is_served_by aggregator domain             whether the domain is that of an aggregator; the bytes of one rank alone are of none
--     shares_of window                           whose the bytes of a window are
--     shares_in domains                          whose the bytes of the domains' windows are
--     shares_by aggregator direction steps       those that an aggregator serves in all steps
--     bytes_of rank shares                       how many of them are a rank's
--     cell steps rank aggregator                 the bytes that a rank gives an aggregator, and those that it gets from it
--     cells_in steps ranks nodes                 those that have a byte, by rank and then by aggregator
use Rattle.std.specs.Prelude.{ℕ, List, [], ◌∷◌, flat_map, filter, Bool, false, ◌||◌, ◌==◌, nat_lt, Option, Some, None, if◌then◌else◌}
use Rattle.std.specs.List.{range_with_len, sum_by}
use Rattle.nc_base.specs.declared.request.Direction.{Direction}
use Rattle.nc_base.specs.declared.request.Direction.TheVariants.{Put, Get}
use Rattle.window_plan.specs.Windows as windows
use Rattle.window_plan.specs.declared.plan.Share.{Share}
use Rattle.window_plan.specs.declared.plan.WindowPlan.{WindowPlan}
use Rattle.step_plan.specs.Steps.{windows_in}
use Rattle.step_plan.specs.declared.plan.DomainPlan.{DomainPlan}
use Rattle.step_plan.specs.declared.plan.StepPlan.{StepPlan}
use Rattle.plan_sums.specs.Naive.{phase_of}
use Rattle.plan_sums.specs.Tallies.{capped}
use Rattle.plan_sums.specs.declared.cells.Cell.{Cell}

abbrev pub is_number : ℕ → Option ℕ → Bool
is_number aggregator None = false
is_number aggregator (Some number) = number == aggregator

abbrev pub is_served_by : ℕ → DomainPlan → Bool
is_served_by aggregator domain = is_number aggregator domain.aggregator

abbrev pub shares_of : WindowPlan → List Share
shares_of window = windows.shares_in window.owners

abbrev pub shares_in : List DomainPlan → List Share
shares_in domains = flat_map shares_of (windows_in domains)

abbrev pub domains_in : Direction → List StepPlan → List DomainPlan
domains_in direction steps = flat_map (λ step. (phase_of direction step).domains) steps

abbrev pub shares_by : ℕ → Direction → List StepPlan → List Share
shares_by aggregator direction steps = shares_in (filter (is_served_by aggregator) (domains_in direction steps))

abbrev pub bytes_of : ℕ → List Share → ℕ
bytes_of rank shares = capped (sum_by (λ s. s.bytes) (filter (λ s. s.rank == rank) shares))

abbrev pub cell : List StepPlan → ℕ → ℕ → Cell
cell steps rank aggregator = record {
  rank = rank;
  aggregator = aggregator;
  put = bytes_of rank (shares_by aggregator Put steps);
  got = bytes_of rank (shares_by aggregator Get steps);
}

-- if it has a byte
abbrev pub some_cell : Cell → List Cell
some_cell c = if nat_lt 0 c.put || nat_lt 0 c.got then c ∷ [] else []

abbrev pub cells_in : List StepPlan → ℕ → ℕ → List Cell
cells_in steps ranks nodes =
    flat_map (λ rank. flat_map (λ aggregator. some_cell (cell steps rank aggregator)) (range_with_len 0 nodes)) (range_with_len 0 ranks)
