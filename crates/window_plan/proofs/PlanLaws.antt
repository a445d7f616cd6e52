-- One window more is planned.
use Rattle.window_plan.proofs.Words.{◌≡◌, ℕ, ◌+◌, sym, ◌∙◌, ap, List, [], ◌∷◌, ◌++◌, append_assoc, map, arith, append-nil, map-append, Owned, Window, WindowWalk, IsWalk, IsPast, told_window, AreLeft, IsNext, windows_from, next_told, no_window, windows_next, told_of, in_either, AreInFront, IsAt, Told, turns_ahead, at_next, owners_in, plan_of, told_plan, AreShared, WindowPlan, nat_tests}
use Rattle.window_plan.proofs.OwnerLaws.{served_owners}

-- ---- what is told

told_more : (plans : List WindowPlan) (plan : WindowPlan) (t : Told) (ahead later whole : List Told) → told_plan plan ≡ t → ahead ≡ t ∷ later
    → map told_plan plans ++ ahead ≡ whole → map told_plan (plans ++ plan ∷ []) ++ later ≡ whole
told_more plans plan t ahead later whole e next h = rw (map-append told_plan plans (plan ∷ []), append_assoc (map told_plan plans) (told_plan plan ∷ []) later, e) (rw next at h)

pub all_told : (plans : List WindowPlan) (ahead whole : List Told) → ahead ≡ [] → map told_plan plans ++ ahead ≡ whole → map told_plan plans ≡ whole
all_told plans ahead whole none h = sym (append-nil (map told_plan plans)) ∙ ap (λ (ts : List Told). map told_plan plans ++ ts) (sym none) ∙ h

-- ---- whose the bytes are

pub none_shared : (list : List Owned) → AreShared list []
none_shared list w m = absurd m

shared_more : (list : List Owned) (plans : List WindowPlan) (w : WindowPlan) → AreShared list plans → w.owners ≡ owners_in w.hull list → AreShared list (plans ++ w ∷ [])
shared_more list plans w h e v m = grind (arith, nat_tests, in_either, owners_in)

plan_shared : (list served : List Owned) (w : Window) (plan : WindowPlan) → plan ≡ plan_of w served → owners_in w.hull list ≡ owners_in w.hull served
    → plan.owners ≡ owners_in plan.hull list
plan_shared list served w plan e same = rw e (sym same)

-- ---- the windows of a domain

-- how far the windows of a domain are planned
pub record IsPlanning (list : List Owned) (room : ℕ) (whole : List Told) (windows : WindowWalk) (left : List Owned) (plans : List WindowPlan) : Type 0 where
  pub walk : IsWalk windows
  pub here : IsAt list room (turns_ahead windows) left
  pub told : map told_plan plans ++ turns_ahead windows ≡ whole
  pub shared : AreShared list plans

pub planned_next : (list : List Owned) (room : ℕ) (whole : List Told) (windows next : WindowWalk) (left later served : List Owned) (plans : List WindowPlan) (w : Window) (plan : WindowPlan)
    → IsPlanning list room whole windows left plans → IsWalk next → turns_ahead windows ≡ told_window w ∷ turns_ahead next
    → AreInFront (w.hull.at + w.hull.len) left served → IsPast (w.hull.at + w.hull.len) left later → plan ≡ plan_of w served
    → IsPlanning list room whole next later (plans ++ plan ∷ [])
planned_next list room whole windows next left later served plans w plan h walk ahead front past is = record {
  walk = walk;
  here = at_next list left later room (turns_ahead windows) (turns_ahead next) (told_window w) h.here ahead past;
  told = told_more plans plan (told_window w) (turns_ahead windows) (turns_ahead next) whole (ap told_plan is) ahead h.told;
  shared = grind (arith, nat_tests, shared_more list plans plan h.shared, plan_shared list served w plan is, served_owners w.hull w.hull.at (w.hull.at + w.hull.len) list left served front.rest, h.here.past (told_window w), front.joined, front.later);
}

-- ---- the windows of sieving

-- how far the windows of entries are planned
pub record IsSieving (list : List Owned) (size place : ℕ) (whole : List Told) (left : List Owned) (plans : List WindowPlan) : Type 0 where
  pub past : IsPast place list left
  pub told : map told_plan plans ++ map told_of (windows_from size place list) ≡ whole
  pub shared : AreShared list plans

pub sieved_next : (list : List Owned) (size place stop : ℕ) (whole : List Told) (left later served : List Owned) (plans : List WindowPlan) (w : Window) (plan : WindowPlan)
    → IsSieving list size place whole left plans → AreLeft left place size → IsNext left place size w served stop → IsPast stop list later
    → plan ≡ plan_of w served → IsSieving list size stop whole later (plans ++ plan ∷ [])
sieved_next list size place stop whole left later served plans w plan h ready next past is = record {
  past = past;
  told = grind (arith, nat_tests, told_more plans plan (told_window w) (map told_of (windows_from size place list)), windows_next list ready next h.past, next_told ready next, h.told, windows_from);
  shared = grind (arith, nat_tests, shared_more list plans plan h.shared, plan_shared list served w plan is, served_owners w.hull place stop list left served next.front.rest h.past next.front.joined next.front.later, next.from, next.hull.short, next.hull.begin);
}

pub sieved_end : (list : List Owned) (size place : ℕ) (whole : List Told) (left : List Owned) (plans : List WindowPlan) → left ≡ []
    → IsSieving list size place whole left plans → map told_plan plans ≡ whole
sieved_end list size place whole left plans none h = grind (arith, nat_tests, all_told, no_window, told_plan)
