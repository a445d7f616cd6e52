-- The bytes that entries have.
use Rattle.aggregator_rounds.proofs.Words.{ℕ, ◌<◌, ◌≤◌, inr, sym, subst, List, [], ◌∷◌, ◌++◌, arith, ◌+◌, ◌-◌, length, range_with_len, Owned, In, ranges, IsAscending, extents, EndBelow, in_left, in_right, in_either, in_flat, flat_in, in_range, range_low, range_high, IsCovered, IsPast, BeginBefore, in_extents, cases_lt, nat_tests}
use Rattle.aggregator_rounds.proofs.PastSteps.{past_in, past_kept}
use Rattle.overlay_laws.proofs.HullLaws.{ascending_few}

-- ---- covered bytes

pub covered_left : (a b : List Owned) (x : ℕ) → IsCovered a x → IsCovered (a ++ b) x
covered_left a b x h = grind (arith, nat_tests, in_left a b h.by h.inside)

pub covered_right : (a b : List Owned) (x : ℕ) → IsCovered b x → IsCovered (a ++ b) x
covered_right a b x h = record { by = h.by; inside = in_right a b h.by h.inside; low = h.low; high = h.high }

pub in_ranges : (list : List Owned) (x : ℕ) → IsCovered list x → In (ranges list) x
in_ranges list x h = grind (arith, nat_tests, in_flat, in_range, range_with_len)

pub ranges_in : (list : List Owned) (x : ℕ) → In (ranges list) x → IsCovered list x
ranges_in list x h = grind (arith, nat_tests, flat_in, range_low, range_high)

pub covered_below : (n : ℕ) (list : List Owned) (x : ℕ) → EndBelow n (extents list) → IsCovered list x → x < n
covered_below n list x h c = grind (arith, nat_tests, in_extents)

-- ---- what is left

pub past_covered : (place : ℕ) (whole left : List Owned) (x : ℕ) → IsPast place whole left → place ≤ x → IsCovered whole x → IsCovered left x
past_covered place whole left x h l c = grind (arith, nat_tests, past_kept)

pub covered_past : (place : ℕ) (whole left : List Owned) (x : ℕ) → IsPast place whole left → IsCovered left x → IsCovered whole x
covered_past place whole left x h c = record { by = c.by; inside = past_in place whole left c.by h c.inside; low = c.low; high = c.high }

-- ---- what has front

pub front_covered : (place : ℕ) (left front : List Owned) (x : ℕ) → BeginBefore place left front → x < place → IsCovered left x → IsCovered front x
front_covered place left front x h l c = grind (arith, nat_tests, in_either)

pub covered_front : (place : ℕ) (left front : List Owned) (x : ℕ) → BeginBefore place left front → IsCovered front x → IsCovered left x
covered_front place left front x h c = subst (λ (w : List Owned). IsCovered w x) (sym h.joined) (covered_left front h.rest x c)

-- ---- how many numbers there are between two

pub hole_short : (xs : List ℕ) (a e y : ℕ) → IsAscending xs → ((x : ℕ) → In xs x → (a ≤ x) × (x < e)) → a ≤ y → y < e → (In xs y → ⊥) → length xs + 1 ≤ e - a
hole_short [] a e y h k l m n = omega arith
hole_short (x ∷ xs) a e y h k l m n =
    let later : (z : ℕ) → In xs z → (x + 1 ≤ z) × (z < e) = λ z i. (grind (arith, h.0 z i), (k z (inr i)).1) in
    grind (arith, nat_tests, cases_lt y x, ascending_few (x ∷ xs) (y + 1) e h, h.0, k, hole_short xs (x + 1) e y h.1 later, k x)
