-- The plan of a step. (own; its device calls, domains and windows are those of serial_spec)
--     windows_in domains             the windows of domains, one domain after another
--     file_calls plan                the device calls of a step, in order
--     IsDomainPlan, AreDivided       a domain, and the first so many of them, with their windows and whose the bytes are
--     AreDomainPlans hints list plans    the aggregators' domains of entries, in order, with their windows and whose the bytes are
--     reach_of windows                   from the first byte of windows to the last
--     in_one_range windows               windows without an aggregator: all of them in one range
--     AreSievedPlans size list plans     the sieving windows of entries of one rank, in one range
use Rattle.std.specs.Prelude.{◌≡◌, ℕ, ◌+◌, ◌-◌, ◌^◌, min, List, [], ◌∷◌, ◌++◌, map, flat_map, take, length, Option, Some, None}
use Rattle.std.specs.List.{range_with_len}
use Rattle.nc_base.specs.declared.plan.Extent.{Extent}
use Rattle.nc_base.specs.declared.plan.Owned.{Owned}
use Rattle.nc_base.specs.declared.script.Hints.{Hints}
use Rattle.nc_base.specs.declared.step.DiskCall.{DiskCall}
use Rattle.nc_base.specs.declared.step.DiskCall.TheVariants.{Grow, Store}
use Rattle.serial_spec.specs.DeviceCalls.{collective_windows, in_order, sieving_windows}
use Rattle.serial_spec.specs.Extents.{spans}
use Rattle.overlay_laws.specs.Entries.{ranges, HaveSame, In}
use Rattle.overlay_laws.specs.Walks.{told_of, IsCover}
use Rattle.exchange_crew.specs.Turns.{turns_of}
use Rattle.collective_round.specs.Parts.{AreDomains}
use Rattle.window_plan.specs.Windows.{get_calls, put_calls, told_plan, AreShared}
use Rattle.window_plan.specs.declared.plan.WindowPlan.{WindowPlan}
use Rattle.step_plan.specs.declared.plan.DomainPlan.{DomainPlan}
use Rattle.step_plan.specs.declared.plan.FilePlan.{FilePlan}

abbrev pub windows_in : List DomainPlan → List WindowPlan
windows_in domains = flat_map (λ d. d.windows) domains

-- ---- device calls

abbrev pub grow_call : Option ℕ → List DiskCall
grow_call None = []
grow_call (Some size) = Grow size ∷ []

abbrev pub count_call : Option Extent → List DiskCall
count_call None = []
count_call (Some field) = Store field.at field.len ∷ []

abbrev pub stores_in : List DomainPlan → List DiskCall
stores_in domains = flat_map put_calls (windows_in domains)

abbrev pub loads_in : List DomainPlan → List DiskCall
loads_in domains = flat_map get_calls (windows_in domains)

abbrev pub file_calls : FilePlan → List DiskCall
file_calls plan = grow_call plan.grow ++ stores_in plan.puts.domains ++ count_call plan.count ++ loads_in plan.gets.domains

-- ---- domains

-- One domain: the windows of its covered bytes, by the entries.
pub record IsDomainPlan (hints : Hints) (list : List Owned) (cover : List Extent) (plan : DomainPlan) : Type 0 where
  pub windows : map told_plan plan.windows ≡ turns_of hints.cb_buffer plan.extent cover
  pub shared : AreShared list plan.windows

-- The first so many domains, with their windows.
pub record AreDivided (hints : Hints) (list : List Owned) (cover domains : List Extent) (count : ℕ) (plans : List DomainPlan) : Type 0 where
  pub many : length plans ≡ count
  pub extents : map (λ d. d.extent) plans ≡ take count domains
  pub numbered : map (λ d. d.aggregator) plans ≡ map Some (range_with_len 0 count)
  pub each : (d : DomainPlan) → In plans d → IsDomainPlan hints list cover d
  pub told : map told_plan (windows_in plans) ≡ flat_map (λ d. turns_of hints.cb_buffer d cover) (take count domains)

pub record AreDomainPlans (hints : Hints) (list : List Owned) (plans : List DomainPlan) : Type 0 where
  pub cover : List Extent
  pub covers : IsCover cover
  pub bytes : HaveSame (spans cover) (ranges list)
  pub domains : AreDomains cover (map (λ d. d.extent) plans)
  pub numbered : map (λ d. d.aggregator) plans ≡ map Some (range_with_len 0 (length plans))
  pub each : (d : DomainPlan) → In plans d → IsDomainPlan hints list cover d
  pub windows : map told_plan (windows_in plans) ≡ map told_of (collective_windows hints (in_order (ranges list)))

-- ---- data sieving

-- where the last of windows ends, the first of which is w
abbrev pub last_end : WindowPlan → List WindowPlan → ℕ
last_end w [] = w.hull.at + w.hull.len
last_end w (v ∷ ws) = last_end v ws

-- a number that would be more than the greatest of 64 bits is told as that
abbrev pub reach_of : List WindowPlan → Option Extent
reach_of [] = None
reach_of (w ∷ ws) = Some (record { at = w.hull.at; len = min (last_end w ws) (2 ^ 64 - 1) - w.hull.at })

abbrev pub range_of : Option Extent → List WindowPlan → List DomainPlan
range_of None windows = []
range_of (Some extent) windows = record { aggregator = None; extent = extent; windows = windows } ∷ []

abbrev pub in_one_range : List WindowPlan → List DomainPlan
in_one_range windows = range_of (reach_of windows) windows

pub record AreSievedPlans (size : ℕ) (list : List Owned) (plans : List DomainPlan) : Type 0 where
  pub windows : map told_plan (windows_in plans) ≡ map told_of (sieving_windows size (in_order (ranges list)))
  pub shared : AreShared list (windows_in plans)
  pub one : plans ≡ in_one_range (windows_in plans)
