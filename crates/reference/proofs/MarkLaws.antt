-- The marks of a rank, one call after another.
use Rattle.std.proofs.lemmas.Bool.Decides.{nat_tests}
use native.Mathlib.Omega.{arith}
use Rattle.std.proofs.Common.{◌≡◌, ℕ, ◌+◌, ◌<◌, List, ◌++◌, length, get_or, drop, Bool, false, cond, add-one}
use Rattle.std.proofs.Math.Seq.{drop-cons}
use Rattle.std.proofs.lemmas.List.{append_cancel_left}
use Rattle.std.specs.Prelude.{filter, ◌↔◌}
use Rattle.nc_base.specs.declared.request.Call.{Call}
use Rattle.nc_base.specs.declared.step.Mark.{Mark}
use Rattle.serial_spec.specs.History.{concerns, is_collective, marks_from, mode_after}
use Rattle.reference.specs.Walk.{BeginOtherwise, BeginWith, own_marks}

mode_alone : (independent : Bool) (x : Call) → is_collective x ≡ false → mode_after independent x ≡ independent
mode_alone independent x e = grind (arith, nat_tests)

left_step : (r c k k' : ℕ) (independent later : Bool) (x : Call) (calls : List Call) → c < length calls → x ≡ get_or calls c x
    → k' ≡ cond (is_collective x) (k + 1) k → later ≡ mode_after independent x
    → marks_from r c k independent (drop c calls) ≡ own_marks r c k independent x ++ marks_from r (c + 1) k' later (drop (c + 1) calls)
left_step r c k k' independent later x calls within there count mode = grind (arith, nat_tests, drop-cons calls c x within, add-one c, add-one k, mode_alone)

-- what an order must be, said of what is left of it after a call's marks
pub goes_on : (A : Type 0) (r c k k' : ℕ) (independent later : Bool) (x : Call) (calls : List Call) (before now : List Mark) → c < length calls → x ≡ get_or calls c x
    → k' ≡ cond (is_collective x) (k + 1) k → later ≡ mode_after independent x → BeginWith r before (own_marks r c k independent x) now
    → (A ↔ (filter (concerns r) before ≡ marks_from r c k independent (drop c calls)))
    → (A ↔ (filter (concerns r) now ≡ marks_from r (c + 1) k' later (drop (c + 1) calls)))
goes_on A r c k k' independent later x calls before now within there count mode begin same =
    grind (arith, nat_tests, left_step r c k k' independent later x calls within there count mode, append_cancel_left)

-- the marks of an order that begin otherwise are none of the rank's
pub stops : (A : Type 0) (r c k : ℕ) (independent : Bool) (x : Call) (calls : List Call) (before : List Mark) → c < length calls → x ≡ get_or calls c x
    → BeginOtherwise r before (own_marks r c k independent x) → (A ↔ (filter (concerns r) before ≡ marks_from r c k independent (drop c calls))) → A → ⊥
stops A r c k independent x calls before within there begin same a =
    grind (arith, nat_tests, left_step r c k (cond (is_collective x) (k + 1) k) independent (mode_after independent x) x calls within there)
