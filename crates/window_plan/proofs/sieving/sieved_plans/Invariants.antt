-- The windows that are planned, and those that are left, are all.
use Rattle.window_plan.proofs.Words.{◌≡◌, ◌-◌, ◌^◌, map, entries_left, entry_windows, AreLeft, LieAcross, told_of}
use Rattle.window_plan.proofs.PlanLaws.{IsSieving}
use Rattle.window_plan.proofs.sieving.sieved_plans.Given as goal

abbrev pub invariant-windows : goal.invariant-windows
invariant-windows l = record {
  sieving : IsSieving l.list l.size l.walk.from (map told_of (entry_windows l.size l.list)) (entries_left l.walk.entries) l.plans.items;
  left : AreLeft (entries_left l.walk.entries) l.walk.from l.walk.size;
  across : LieAcross l.walk.from l.walk.entries.carried.items;
  size : l.walk.size ≡ l.size;
}

abbrev pub decreases-windows : goal.decreases-windows
decreases-windows l = 2 ^ 64 - l.walk.from
