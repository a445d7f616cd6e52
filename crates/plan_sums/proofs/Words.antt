-- The words of this crate's proofs, from where they stand.
pub use Rattle.list_laws.proofs.Std.{Bool, List, [], ap, append-nil, arith, cond, false, filter, filter-append, flat_map, flat_map-append, flat_map-map, flat_map_more, fold, get_or, length, map, map-append, max, min, range_with_len, refl, sum_by_push, sym, take, take_more, true, ℕ, ◌++◌, ◌+◌, ◌-◌, ◌<◌, ◌==◌, ◌^◌, ◌∙◌, ◌∷◌, ◌≡◌, nat_tests}
pub use Rattle.std.proofs.lemmas.List.{append_assoc}
pub use Rattle.std.specs.List.{count_by, sum_by}
pub use Rattle.list_laws.proofs.Common.{long_push}
pub use Rattle.list_laws.proofs.Types.{Direction, DiskCall, Extent, Get, Grow, Put}
pub use Rattle.plan_sums.specs.Cells.{bytes_of, cell, cells_in, domains_in, is_served_by, shares_by, shares_in, shares_of, some_cell}
pub use Rattle.plan_sums.specs.Naive.{asked_in, naive_sum, phase_of}
pub use Rattle.plan_sums.specs.Served.{cell_of, served_by}
pub use Rattle.plan_sums.specs.Summed.{AreSums, all_calls}
pub use Rattle.plan_sums.specs.Tallies.{bytes_in, capped, counted, is_unaligned, least_of, tally_of}
pub use Rattle.plan_sums.specs.declared.calls.Counted.{Counted}
pub use Rattle.plan_sums.specs.declared.cells.Cell.{Cell}
pub use Rattle.plan_sums.specs.declared.cells.Served.{Served}
pub use Rattle.plan_sums.specs.declared.naive.Naive.{Naive}
pub use Rattle.plan_sums.specs.declared.tally.Tally.{Tally}
pub use Rattle.run_plan.specs.Planned.{calls_in}
pub use Rattle.run_plan.specs.declared.run.RunPlan.{RunPlan}
pub use Rattle.serial_spec.proofs.Common.{greatest}
pub use Rattle.step_plan.specs.Steps.{count_call, file_calls, windows_in}
pub use Rattle.step_plan.specs.declared.plan.Asked.{Asked}
pub use Rattle.step_plan.specs.declared.plan.DomainPlan.{DomainPlan}
pub use Rattle.step_plan.specs.declared.plan.Phase.{Phase}
pub use Rattle.step_plan.specs.declared.plan.StepPlan.{StepPlan}
pub use Rattle.window_plan.specs.declared.plan.Share.{Share}
