-- Sorted entries before and from an index on.
use Rattle.aggregator_rounds.proofs.Words.{◌≡◌, ℕ, zero, suc, ◌+◌, ◌^◌, ◌<◌, ◌≤◌, ◌⊎◌, inl, inr, refl, sym, ap, List, [], ◌∷◌, length, take, drop, get_or, ◌++◌, append_assoc, Some, None, slice_get, arith, take-append-drop, same_Some, slice_get-get_or, entry_in, in_either, no_none_some, Extent, Owned, In, extents, IsByPlace, EndBelow, get_is, IsPast, BeginBefore, in_extents, nat_tests, ltb-true, ltb-false}
use Rattle.aggregator_rounds.proofs.PastSteps.{past_front}

-- ---- members by index

pub taken_at : {X : Type 0} (n : ℕ) (xs : List X) (x : X) → In (take n xs) x → (i : ℕ) × (i < n) × (slice_get xs i ≡ Some x)
taken_at (suc n) (y ∷ xs) x (inl e) = (zero, omega arith, ap Some e)
taken_at (suc n) (y ∷ xs) x (inr h) = let r = taken_at n xs x h in (suc r.0, grind (arith, r.1), r.2)
taken_at _ _ x h = absurd h

pub none_got : {X : Type 0} (xs : List X) → slice_get xs 0 ≡ None → xs ≡ []
none_got [] h = refl
none_got (x ∷ xs) h = no_none_some x (sym h)

-- ---- in order

pub sorted_dropped : (n : ℕ) (list : List Owned) → IsByPlace (extents list) → IsByPlace (extents (drop n list))
sorted_dropped (suc n) (o ∷ list) h = sorted_dropped n list h.1
sorted_dropped n list h = h

pub extents_dropped : (n : ℕ) (list : List Owned) (e : Extent) → In (extents (drop n list)) e → In (extents list) e
extents_dropped (suc n) (o ∷ list) e h = inr (extents_dropped n list e h)
extents_dropped n list e h = h

-- those from the one on that begins at the place or later
later_all : (n place : ℕ) (list : List Owned) → IsByPlace (extents list) → ((o : Owned) → slice_get list n ≡ Some o → place ≤ o.extent.at)
    → (o : Owned) → In (drop n list) o → place ≤ o.extent.at
later_all zero place (p ∷ list) h k o m = grind (arith, nat_tests, in_extents list o, h.0 o.extent, k p)
later_all (suc n) place (p ∷ list) h k o m = later_all n place list h.1 k o m
later_all _ place _ h k o m = absurd m

-- no entry begins before the first
pub first_begins : (list : List Owned) (first o : Owned) → IsByPlace (extents list) → slice_get list 0 ≡ Some first → In list o → first.extent.at ≤ o.extent.at
first_begins [] first o h e m = absurd m
first_begins (p ∷ list) first o h e m = grind (arith, nat_tests, same_Some p first e, in_extents list o)

-- an entry stands before an index, or begins where the one at the index does, or later
pub before_or_later : (list : List Owned) (i : ℕ) (d p : Owned) → i < length list → IsByPlace (extents list) → In list p
    → In (take i list) p ⊎ ((get_or list i d).extent.at ≤ p.extent.at)
before_or_later [] i d p l h m = absurd m
before_or_later (o ∷ list) i d p l h m = grind (arith, nat_tests, before_or_later list, in_extents list p)

-- ---- the parts of a list

pub taken_before : (n place : ℕ) (list : List Owned) → IsByPlace (extents list)
    → ((i : ℕ) (o : Owned) → i < n → slice_get list i ≡ Some o → o.extent.at < place)
    → ((o : Owned) → slice_get list n ≡ Some o → place ≤ o.extent.at) → BeginBefore place list (take n list)
taken_before n place list h before after = grind (arith, nat_tests, take-append-drop n list, later_all n place list h after, taken_at)

pub dropped_past : (n place : ℕ) (list : List Owned) → ((i : ℕ) (o : Owned) → i < n → slice_get list i ≡ Some o → o.extent.at + o.extent.len ≤ place)
    → IsPast place list (drop n list)
dropped_past n place list before = grind (arith, nat_tests, take-append-drop n list, past_front place (take n list) (drop n list), taken_at, before)

-- ---- entries of two lists, one after another

pub first_joined : (a b : List Owned) (o : Owned) → slice_get a 0 ≡ Some o → slice_get (a ++ b) 0 ≡ Some o
first_joined (p ∷ a) b o h = h
first_joined a b o h = no_none_some o h

pub extents_left : (a b : List Owned) (e : Extent) → In (extents a) e → In (extents (a ++ b)) e
extents_left [] b e m = absurd m
extents_left (o ∷ a) b e m = grind (arith, nat_tests, extents_left a b e)

pub extents_right : (a b : List Owned) (e : Extent) → In (extents b) e → In (extents (a ++ b)) e
extents_right [] b e m = m
extents_right (o ∷ a) b e m = inr (extents_right a b e m)

sorted_left : (a b : List Owned) → IsByPlace (extents (a ++ b)) → IsByPlace (extents a)
sorted_left [] b h = tt
sorted_left (o ∷ a) b h = ((λ e m. h.0 e (extents_left a b e m)), sorted_left a b h.1)

pub sorted_right : (a b : List Owned) → IsByPlace (extents (a ++ b)) → IsByPlace (extents b)
sorted_right [] b h = h
sorted_right (o ∷ a) b h = sorted_right a b h.1

pub front_sorted : (place : ℕ) (left front : List Owned) → IsByPlace (extents left) → BeginBefore place left front → IsByPlace (extents front)
front_sorted place left front s b = grind (arith, nat_tests, sorted_left front b.rest, b.joined)

-- those that are carried have front too
pub front_all : (place : ℕ) (carried ahead fresh : List Owned) → ((o : Owned) → In carried o → o.extent.at < place) → BeginBefore place ahead fresh
    → BeginBefore place (carried ++ ahead) (carried ++ fresh)
front_all place carried ahead fresh before b = grind (arith, nat_tests, append_assoc, in_either)

-- ---- entries that end at a place or before

-- read where a list has none
abbrev pub no_entry : Owned
no_entry = record { extent = record { at = 0; len = 0 }; rank = 0; request = 0; slot = 0; from = 0 }

pub entry_ends : (list : List Owned) (i : ℕ) (d : Owned) → EndBelow (2 ^ 62) (extents list) → i < length list
    → (get_or list i d).extent.at + (get_or list i d).extent.len < 2 ^ 62
entry_ends list i d h l = grind (arith, nat_tests, h (get_or list i d).extent, in_extents, entry_in)

pub ends_more : (place i : ℕ) (list : List Owned) (d : Owned) → i < length list → (get_or list i d).extent.at + (get_or list i d).extent.len ≤ place
    → ((k : ℕ) (o : Owned) → k < i → slice_get list k ≡ Some o → o.extent.at + o.extent.len ≤ place)
    → (k : ℕ) (o : Owned) → k < i + 1 → slice_get list k ≡ Some o → o.extent.at + o.extent.len ≤ place
ends_more place i list d l e h k o m g = grind (arith, nat_tests, ltb-true, ltb-false, same_Some, slice_get-get_or, slice_get)

pub goes_past : (place i : ℕ) (list : List Owned) (d o : Owned) → i < length list → place < (get_or list i d).extent.at + (get_or list i d).extent.len
    → slice_get list i ≡ Some o → place < o.extent.at + o.extent.len
goes_past place i list d o l e g = grind (arith, nat_tests, same_Some, slice_get-get_or list i d l)

pub none_after : {A : Type 0} (list : List Owned) (o : Owned) → slice_get list (length list) ≡ Some o → A
none_after list o g = let l = (get_is list (length list) o g).0 in absurd (omega arith)
