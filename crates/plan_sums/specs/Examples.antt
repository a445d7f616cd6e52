-- A worked plan of two ranks and two aggregators.
--     creation    the device calls that make the dataset: it grows to 88 bytes, and its header is written
--     a_put       rank 0 puts 8 bytes in two pieces and rank 1 four bytes in one, through a window of 16 bytes that has a hole; then the record count
--     a_get       rank 1 gets 4 bytes by itself
--     a_close     the record count at the close
use Rattle.std.specs.Prelude.{ℕ, List, [], ◌∷◌, Bool, true, false, Option, Some, None}
use Rattle.nc_base.specs.declared.plan.Extent.{Extent}
use Rattle.nc_base.specs.declared.step.DiskCall.{DiskCall}
use Rattle.nc_base.specs.declared.step.DiskCall.TheVariants.{Grow, Store}
use Rattle.nc_base.specs.declared.step.Mark.TheVariants.{Meet, Solo}
use Rattle.window_plan.specs.declared.plan.Owner.{Owner}
use Rattle.window_plan.specs.declared.plan.WindowPlan.{WindowPlan}
use Rattle.step_plan.specs.declared.plan.Asked.{Asked}
use Rattle.step_plan.specs.declared.plan.DomainPlan.{DomainPlan}
use Rattle.step_plan.specs.declared.plan.Phase.{Phase}
use Rattle.step_plan.specs.declared.plan.StepPlan.{StepPlan}
use Rattle.run_plan.specs.declared.run.RunPlan.{RunPlan}

abbrev pub bytes_at : ℕ → ℕ → Extent
bytes_at at len = record { at = at; len = len }

abbrev pub asks : ℕ → ℕ → ℕ → Asked
asks rank bytes pieces = record { rank = rank; bytes = bytes; pieces = pieces }

abbrev pub piece : ℕ → ℕ → ℕ → Owner
piece rank at len = record { rank = rank; extent = bytes_at at len }

abbrev pub window : Extent → Bool → List Owner → WindowPlan
window hull full pieces = record { hull = hull; full = full; owners = pieces }

abbrev pub domain : Option ℕ → WindowPlan → DomainPlan
domain aggregator w = record { aggregator = aggregator; extent = w.hull; windows = w ∷ [] }

abbrev pub nothing : Phase
nothing = record { asked = []; domains = [] }

abbrev pub creation : List DiskCall
creation = Grow 88 ∷ Store 0 80 ∷ []

abbrev pub a_put : StepPlan
a_put = record {
  mark = Meet 0;
  callers = [];
  file = record {
    overlap = None;
    grow = None;
    puts = record {
      asked = asks 0 8 2 ∷ asks 1 4 1 ∷ [];
      domains = domain (Some 0) (window (bytes_at 80 16) false (piece 0 80 4 ∷ piece 1 84 4 ∷ piece 0 92 4 ∷ [])) ∷ [];
    };
    count = Some (bytes_at 4 4);
    gets = nothing;
  };
}

abbrev pub a_get : StepPlan
a_get = record {
  mark = Solo 1 1;
  callers = [];
  file = record {
    overlap = None;
    grow = None;
    puts = nothing;
    count = None;
    gets = record { asked = asks 1 4 1 ∷ []; domains = domain None (window (bytes_at 84 4) true (piece 1 84 4 ∷ [])) ∷ [] };
  };
}

abbrev pub two_steps : RunPlan
two_steps = record { opening = creation; steps = a_put ∷ a_get ∷ []; close = Some (bytes_at 4 4); answers = []; pending = []; records = 1 }
