-- What the owner does along arrivals, one arrival after another.
use Rattle.file_owner.proofs.Words.{◌≡◌, ℕ, refl, List, [], ◌∷◌, ◌++◌, true, false, Some, None, append_assoc, ◌==◌, eqb_tells, Hints, Setting, Arrival, Owner, event, given_along, is_strange, owed, served, owed_on, served_on, stranger_on, given_on, owner_calls, owner_told, each_told, event_calls, arith, nat_tests}

-- ---- by numbers

pub other_number : (q r : ℕ) → (q ≡ r → ⊥) → (q == r) ≡ false
other_number q r n = grind (arith, nat_tests, eqb_tells)

-- ---- from one arrival to the next

-- at a strange arrival the owner stops
pub record StopsAt (s : Setting) (d : Owner) (a : Arrival) (rest : List Arrival) : Type 0 where
  pub owner : (served s d (a ∷ rest)).owner ≡ d
  pub marks : (served s d (a ∷ rest)).marks ≡ []
  pub stranger : (served s d (a ∷ rest)).stranger ≡ Some a.0

pub stops_at : (s : Setting) (d : Owner) (a : Arrival) (rest : List Arrival) → is_strange s d a ≡ true → StopsAt s d a rest
stops_at s d a rest e = record { owner = rw (e, served) refl; marks = rw (e, served) refl; stranger = rw (e, served) refl }

pub calls_stop : (hints : Hints) (s : Setting) (d : Owner) (a : Arrival) (rest : List Arrival) → is_strange s d a ≡ true → owner_calls hints s d (a ∷ rest) ≡ []
calls_stop hints s d a rest e = rw (e, owner_calls) refl

pub told_on : (s : Setting) (d : Owner) (a : Arrival) (rest : List Arrival) → is_strange s d a ≡ false → owner_told s d (a ∷ rest) ≡ each_told (event s d a) ++ owner_told s (event s d a).owner rest
told_on s d a rest e = rw (e, owner_told) refl

pub told_stop : (s : Setting) (d : Owner) (a : Arrival) (rest : List Arrival) → is_strange s d a ≡ true → owner_told s d (a ∷ rest) ≡ []
told_stop s d a rest e = rw (e, owner_told) refl

pub calls_on : (hints : Hints) (s : Setting) (d : Owner) (a : Arrival) (rest : List Arrival) → is_strange s d a ≡ false
    → owner_calls hints s d (a ∷ rest) ≡ event_calls hints s d a ++ owner_calls hints s (event s d a).owner rest
calls_on hints s d a rest e = rw (e, owner_calls) refl

-- ---- after arrivals of which none was strange

pub record GoesOn (hints : Hints) (s : Setting) (d : Owner) (first later : List Arrival) : Type 0 where
  pub owner : (served s d (first ++ later)).owner ≡ (served s (served s d first).owner later).owner
  pub marks : (served s d (first ++ later)).marks ≡ (served s d first).marks ++ (served s (served s d first).owner later).marks
  pub stranger : (served s d (first ++ later)).stranger ≡ (served s (served s d first).owner later).stranger
  pub owed_items : (q : ℕ) → owed s d (first ++ later) q ≡ given_along s d first q ++ owed s (served s d first).owner later q
  pub given : (q : ℕ) → given_along s d (first ++ later) q ≡ given_along s d first q ++ given_along s (served s d first).owner later q
  pub calls : owner_calls hints s d (first ++ later) ≡ owner_calls hints s d first ++ owner_calls hints s (served s d first).owner later
  pub told : owner_told s d (first ++ later) ≡ owner_told s d first ++ owner_told s (served s d first).owner later

pub goes_on : (hints : Hints) (s : Setting) (d : Owner) (first later : List Arrival) → (served s d first).stranger ≡ None → GoesOn hints s d first later
goes_on hints s d [] later e = record { owner = refl; marks = refl; stranger = refl; owed_items = λ q. refl; given = λ q. refl; calls = refl; told = refl }
goes_on hints s d (a ∷ first) later e =
    grind (arith, nat_tests, goes_on hints s (event s d a).owner first later, stranger_on, append_assoc, owed_on, given_on, calls_on, told_on, served_on)
