-- The next window of what is left.
use Rattle.data_sieving.proofs.Words.{◌≡◌, ℕ, ◌+◌, ◌-◌, ◌^◌, ◌<◌, ◌≤◌, ◌⊎◌, List, [], ◌∷◌, ◌++◌, length, max, min, Some, slice_get, arith, same_Some, at_in, Owned, In, Window, IsPast, BeginBefore, AreLeft, LieAcross, IsHull, IsNext, past_in, past_extents, past_sorted, front_all, first_begins, first_joined, in_extents, nat_tests}

module _ {left : List Owned} {place size : ℕ} (l : AreLeft left place size) (at : ℕ) (first : Owned) (e : slice_get left 0 ≡ Some first) (is : at ≡ max first.extent.at place) where
  -- the first byte that is not served lies in the first entry
  at_below : at < first.extent.at + first.extent.len
  at_below = grind (arith, nat_tests, l.next first e, l.filled first (at_in left 0 first e))

  -- what begins a window begins what is left
  pub first_below : (served : List Owned) (stop : ℕ) (o : Owned) → BeginBefore stop left served → slice_get served 0 ≡ Some o → at < o.extent.at + o.extent.len
  first_below served stop o b g = grind (arith, nat_tests, first_joined served b.rest o g, at_below, same_Some, slice_get)

  stop_past : (stop : ℕ) → stop ≡ min (at + size) (2 ^ 64 - 1) → at < stop
  stop_past stop ends = grind (arith, nat_tests, l.some, l.ends first.extent (in_extents left first (at_in left 0 first e)), at_below)

  pub is_next : (served : List Owned) (stop : ℕ) (w : Window) → stop ≡ min (at + size) (2 ^ 64 - 1) → BeginBefore stop left served → IsHull at stop served w → IsNext left place size w served stop
  is_next served stop w ends begins hull = grind (arith, nat_tests, l.sorted, at_below, at_in left 0 first e, first_begins)

-- the first entry begins before the stop, so there is one
pub some_served : (left served : List Owned) (at stop : ℕ) (first : Owned) → slice_get left 0 ≡ Some first → first.extent.at ≤ at → at < stop → BeginBefore stop left served
    → 1 ≤ length served
some_served left [] at stop first e begin room b = grind (arith, nat_tests, at_in b.rest 0 first, slice_get)
some_served left (o ∷ served) at stop first e begin room b = omega arith

-- where entries are carried the window begins behind the one before
pub carried_at : (carried ahead : List Owned) (place at : ℕ) (first o : Owned) → LieAcross place carried → slice_get (carried ++ ahead) 0 ≡ Some first
    → at ≡ max first.extent.at place → In carried o → (o.extent.at ≤ at) × (at < o.extent.at + o.extent.len)
carried_at [] ahead place at first o h e is m = absurd m
carried_at (p ∷ carried) ahead place at first o h e is m = grind (arith, nat_tests, h p, h o m, same_Some p first e)

-- what is known of the next window before its hull is, the carried entries being those of a list
pub record Ready (carried ahead fresh : List Owned) (place size at stop : ℕ) (first : Owned) : Type 0 where
  pub left : AreLeft (carried ++ ahead) place size
  pub before : LieAcross place carried
  pub at_first : slice_get (carried ++ ahead) 0 ≡ Some first
  pub room : at < stop
  pub front : BeginBefore stop (carried ++ ahead) (carried ++ fresh)

pub is_ready : (items carried ahead fresh : List Owned) (place size at stop : ℕ) (first : Owned) → carried ≡ items → AreLeft (items ++ ahead) place size → LieAcross place items
    → Some first ≡ slice_get (items ++ ahead) 0 → at ≡ max first.extent.at place → stop ≡ min (at + size) (2 ^ 64 - 1) → BeginBefore stop ahead fresh
    → Ready carried ahead fresh place size at stop first
is_ready items carried ahead fresh place size at stop first same l h e is ends b = grind (arith, nat_tests, stop_past, front_all)

-- ---- what is left behind it

pub past_left : (left later : List Owned) (place stop size : ℕ) → AreLeft left place size → IsPast stop left later
    → ((o : Owned) → slice_get later 0 ≡ Some o → stop < o.extent.at + o.extent.len) → AreLeft later stop size
past_left left later place stop size l p next = grind (arith, nat_tests, past_sorted, past_extents, past_in)

pub across_further : (carried now : List Owned) (place stop : ℕ) → place ≤ stop → LieAcross place carried
    → ((o : Owned) → In now o → (In carried o ⊎ (o.extent.at < stop)) × (stop < o.extent.at + o.extent.len)) → LieAcross stop now
across_further carried now place stop l h k o m = grind (arith, nat_tests)
