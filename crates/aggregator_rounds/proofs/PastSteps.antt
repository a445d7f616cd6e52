-- What is left of entries when some that end there or before are gone.
use Rattle.aggregator_rounds.proofs.Words.{◌≡◌, ℕ, ◌+◌, ◌^◌, ◌<◌, ◌≤◌, ◌⊎◌, inl, inr, refl, sym, ◌∙◌, ap, append_assoc, length, subst, Some, slice_get, List, [], ◌∷◌, ◌++◌, Bool, false, min, arith, filter, nat_lt, same_Some, no_none_some, Extent, Owned, In, Source, extents, EndBelow, IsByPlace, AreFound, filter_in, in_either, in_right, filter_past, IsPast, nat_tests, ltb-true, ltb-false}

-- ---- what is gone

pub past_none : (place : ℕ) (list : List Owned) → IsPast place list list
past_none place [] = refl
past_none place (o ∷ list) = inr (list, refl, past_none place list)

pub past_front : (place : ℕ) (front left : List Owned) → ((o : Owned) → In front o → o.extent.at + o.extent.len ≤ place) → IsPast place (front ++ left) left
past_front place [] left h = past_none place left
past_front place (o ∷ front) left h = inl (h o (inl refl), past_front place front left (λ p m. h p (inr m)))

past_gone : (place : ℕ) (list rest : List Owned) (o : Owned) → o.extent.at + o.extent.len ≤ place → IsPast place (list ++ o ∷ rest) (list ++ rest)
past_gone place [] rest o h = inl (h, past_none place rest)
past_gone place (p ∷ list) rest o h = inr (list ++ rest, refl, past_gone place list rest o h)

pub past_filter : (place : ℕ) (list rest : List Owned) → IsPast place (list ++ rest) (filter_past place list ++ rest)
past_filter place [] rest = past_none place rest
past_filter place (o ∷ list) rest = grind (arith, nat_tests, past_filter place list rest, ltb-false)

pub past_twice : (p q : ℕ) (whole left later : List Owned) → p ≤ q → IsPast p whole left → IsPast q left later → IsPast q whole later
past_twice p q [] left later l h k = subst (λ (list : List Owned). IsPast q list later) h k
past_twice p q (o ∷ whole) left later l (inl h) k = grind (arith, nat_tests, past_twice p q whole left later l h.1 k)
past_twice p q (o ∷ whole) left later l (inr h) k = grind (arith, nat_tests, past_twice p q whole h.0 later l h.2, past_twice p q whole h.0)

pub past_later : (p q : ℕ) (whole left : List Owned) → p ≤ q → IsPast p whole left → IsPast q whole left
past_later p q whole left l h = past_twice p q whole left left l h (past_none q left)

-- what is gone doesn't count where no entry does that ends there
pub past_same : (test : Owned → Bool) (place : ℕ) (whole left : List Owned) → ((o : Owned) → o.extent.at + o.extent.len ≤ place → test o ≡ false) → IsPast place whole left
    → filter test whole ≡ filter test left
past_same test place [] left out h = grind (arith, nat_tests)
past_same test place (o ∷ whole) left out h = grind (arith, nat_tests, past_same test place whole)

-- ---- before anything was served

pub all_left : (list carried ahead : List Owned) → carried ≡ [] → ahead ≡ list → list ≡ carried ++ ahead
all_left list carried ahead none all = sym (ap (λ (l : List Owned). l ++ ahead) none ∙ all)

pub walk_begin : (list left : List Owned) → list ≡ left → IsPast 0 list left
walk_begin list left all = subst (λ (l : List Owned). IsPast 0 list l) all (past_none 0 list)

-- ---- members

pub past_in : (place : ℕ) (whole left : List Owned) (o : Owned) → IsPast place whole left → In left o → In whole o
past_in place [] left o h m = grind (arith, nat_tests)
past_in place (p ∷ whole) left o h m = grind (arith, nat_tests, past_in place whole)

pub past_kept : (place : ℕ) (whole left : List Owned) (o : Owned) → IsPast place whole left → In whole o → place < o.extent.at + o.extent.len → In left o
past_kept place (p ∷ whole) left o h m l = grind (arith, nat_tests, past_kept place whole)
past_kept place whole left o h m l = absurd m

-- the first of those behind a list
pub ahead_in : (place : ℕ) (whole list ahead rest : List Owned) (entry : Owned) → ahead ≡ entry ∷ rest → IsPast place whole (list ++ ahead) → In whole entry
ahead_in place whole list ahead rest entry e h = grind (arith, nat_tests, past_in, in_right)

-- where nothing is left all end there
pub past_all : (place : ℕ) (whole left : List Owned) (o : Owned) → left ≡ [] → IsPast place whole left → In whole o → o.extent.at + o.extent.len ≤ place
past_all place whole left o none h m = grind (arith, nat_tests, past_kept, ltb-true, ltb-false)

pub past_extents : (place : ℕ) (whole left : List Owned) (e : Extent) → IsPast place whole left → In (extents left) e → In (extents whole) e
past_extents place [] left e h m = grind (arith, nat_tests)
past_extents place (p ∷ whole) left e h m = grind (arith, nat_tests, past_extents place whole)

pub past_sorted : (place : ℕ) (whole left : List Owned) → IsByPlace (extents whole) → IsPast place whole left → IsByPlace (extents left)
past_sorted place [] left s h = grind (arith, nat_tests)
past_sorted place (o ∷ whole) left s h = grind (arith, nat_tests, past_extents place whole, past_sorted place whole)

pub past_found : (source : Source) (place : ℕ) (whole left : List Owned) → AreFound source whole → IsPast place whole left → AreFound source left
past_found source place [] left f h = grind (arith, nat_tests)
past_found source place (o ∷ whole) left f h = grind (arith, nat_tests, past_found source place whole)

-- ---- ends below 2 ^ 62

pub filter_ends : (place : ℕ) (list : List Owned) → EndBelow (2 ^ 62) (extents list)
    → filter (λ (o : Owned). nat_lt place (min (o.extent.at + o.extent.len) 18446744073709551615)) list ≡ filter_past place list
filter_ends place [] h = refl
filter_ends place (o ∷ list) h =
    let end = h o.extent (inl refl) in
    grind (arith, nat_tests, filter_ends place list, o.extent.at, o.extent.len)

-- ---- one entry more that a walk has passed: it ends there, or is carried

abbrev pub HasPassed : ℕ → List Owned → Owned → List Owned → Type 0
HasPassed stop carried entry now =
    ((now ≡ carried) × (entry.extent.at + entry.extent.len ≤ stop))
    ⊎ ((now ≡ carried ++ entry ∷ []) × (entry.extent.at < stop) × (stop < entry.extent.at + entry.extent.len))

pub passed_past : (stop : ℕ) (whole carried now ahead rest : List Owned) (entry : Owned) → ahead ≡ entry ∷ rest → HasPassed stop carried entry now
    → IsPast stop whole (carried ++ ahead) → IsPast stop whole (now ++ rest)
passed_past stop whole carried now ahead rest entry e xs p = grind (arith, nat_tests, past_twice, past_gone, append_assoc)

pub passed_carried : (stop : ℕ) (old carried now : List Owned) (entry : Owned) → HasPassed stop carried entry now
    → ((o : Owned) → In carried o → (In old o ⊎ (o.extent.at < stop)) × (stop < o.extent.at + o.extent.len))
    → (o : Owned) → In now o → (In old o ⊎ (o.extent.at < stop)) × (stop < o.extent.at + o.extent.len)
passed_carried stop old carried now entry xs b o m = grind (arith, nat_tests, in_either)

pub kept_carried : (stop : ℕ) (old now : List Owned) → now ≡ filter_past stop old
    → (o : Owned) → In now o → (In old o ⊎ (o.extent.at < stop)) × (stop < o.extent.at + o.extent.len)
kept_carried stop old now e o m = grind (arith, nat_tests, filter_in)

-- what was there in front of the others ends past the place, if nothing was carried then the first of those ahead does
pub first_further : (stop : ℕ) (carried ahead : List Owned) (P : Owned → Type 0)
    → ((o : Owned) → In carried o → P o × (stop < o.extent.at + o.extent.len)) → ((o : Owned) → slice_get ahead 0 ≡ Some o → stop < o.extent.at + o.extent.len)
    → (o : Owned) → slice_get (carried ++ ahead) 0 ≡ Some o → stop < o.extent.at + o.extent.len
first_further stop [] ahead P h k o e = k o e
first_further stop (p ∷ carried) ahead P h k o e = grind (arith, nat_tests, same_Some p o, h p)

pub first_ahead : (stop : ℕ) (ahead rest : List Owned) (entry : Owned) → ahead ≡ entry ∷ rest → stop < entry.extent.at + entry.extent.len
    → (o : Owned) → slice_get ahead 0 ≡ Some o → stop < o.extent.at + o.extent.len
first_ahead stop ahead rest entry e h o g = grind (arith, nat_tests, slice_get)

pub none_ahead : (stop : ℕ) (ahead : List Owned) → length ahead ≡ 0 → (o : Owned) → slice_get ahead 0 ≡ Some o → stop < o.extent.at + o.extent.len
none_ahead stop [] e o g = no_none_some o g
none_ahead stop (p ∷ ahead) e o g = absurd (omega arith)
