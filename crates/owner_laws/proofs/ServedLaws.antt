-- A run of the owner: its first strange arrival, and its order by the arrivals before that one.
use Rattle.owner_laws.proofs.Words.{◌≡◌, ℕ, ◌<◌, refl, ◌∙◌, List, [], ◌∷◌, ◌++◌, replicate, max, true, Option, None, arith, nat_lt, list_all, entry_below, and_first, and_second, Mark, Owner, event, first_owner, free_client, is_strange, needed_now, served, Counted, Setting, Arrival, done, served_on, stranger_on, none_marked, entry_replicate, done_is, IsCutByArrivals, IsDoneByArrivals, before_stranger, before_stranger_from, first_stranger, first_stranger_from, puts_brought, ltb-true, nat_tests, common_steps}
use Rattle.list_laws.proofs.Truth.{holds_or_not}
use Rattle.owner_laws.proofs.HeldClients.{Kept}
use Rattle.owner_laws.proofs.StrangerLaws.{event_next, not_taken, same_strange}

-- ---- from where the owner stands

-- Along the front none is strange, and it brings all the marks.
record IsFront (s : Setting) (d : Owner) (ranks : ℕ) (front arrivals : List Arrival) : Type 0 where
  none_strange : (served s d front).stranger ≡ None
  marks : (served s d front).marks ≡ (served s d arrivals).marks
  numbers : list_all (λ a. nat_lt a.0 ranks) front ≡ true

record Found (s : Setting) (ranks reached : ℕ) (before : List Arrival) (d : Owner) (arrivals : List Arrival) : Type 0 where
  stranger : (served s d arrivals).stranger ≡ first_stranger_from s ranks reached before arrivals
  front : IsFront s d ranks (before_stranger_from s ranks reached before arrivals) arrivals

found : (s : Setting) (ranks reached : ℕ) (before : List Arrival) (d : Owner) (arrivals : List Arrival) → list_all (λ a. nat_lt a.0 ranks) arrivals ≡ true → Kept ranks before d → d.reached ≡ reached
    → Found s ranks reached before d arrivals
found s ranks reached before d [] n kept e = record { stranger = refl; front = record { none_strange = refl; marks = refl; numbers = refl } }
found s ranks reached before d ((r, i) ∷ rest) n kept e =
    let low = and_first (nat_lt r ranks) _ n in
    let below : r < ranks = ltb-true r ranks low in
    let client = entry_below d.clients r (omega arith) in
    grind (arith, common_steps, same_strange s ranks before d kept r client.0 client.1 i, holds_or_not (is_strange s d (r, i)), stranger_on s d (r, i) rest, none_marked s d (r, i) rest, event_next s ranks before d kept r client.0 client.1 i, not_taken s ranks before d kept r client.0 client.1 i, found s ranks (max reached (needed_now s (puts_brought ranks before (r, i)))) (before ++ (r, i) ∷ []) (event s d (r, i)).owner rest, and_second (nat_lt r ranks), served_on s d (r, i) (before_stranger_from s ranks (max reached (needed_now s (puts_brought ranks before (r, i)))) (before ++ (r, i) ∷ []) rest), served_on s d (r, i) rest)

-- ---- from the opening

first_kept : (ranks r : ℕ) (c : Counted) → r < ranks → Kept ranks [] (first_owner (replicate ranks free_client) c)
first_kept ranks r c l = grind (arith, common_steps, entry_below (replicate ranks free_client) r, entry_replicate)

found_first : (s : Setting) (ranks : ℕ) (c : Counted) (arrivals : List Arrival) → list_all (λ a. nat_lt a.0 ranks) arrivals ≡ true
    → Found s ranks c.records [] (first_owner (replicate ranks free_client) c) arrivals
found_first s ranks c [] h = record { stranger = refl; front = record { none_strange = refl; marks = refl; numbers = refl } }
found_first s ranks c (a ∷ rest) h =
    found s ranks c.records [] (first_owner (replicate ranks free_client) c) (a ∷ rest) h (first_kept ranks a.0 c (ltb-true a.0 ranks (and_first (nat_lt a.0 ranks) _ h))) refl

pub stranger_found : (s : Setting) (ranks : ℕ) (c : Counted) (arrivals : List Arrival) → list_all (λ a. nat_lt a.0 ranks) arrivals ≡ true
    → (served s (first_owner (replicate ranks free_client) c) arrivals).stranger ≡ first_stranger s ranks c.records arrivals
stranger_found s ranks c arrivals h = (found_first s ranks c arrivals h).stranger

pub order_found : (s : Setting) (ranks : ℕ) (c : Counted) (arrivals : List Arrival) → list_all (λ a. nat_lt a.0 ranks) arrivals ≡ true
    → (served s (first_owner (replicate ranks free_client) c) arrivals).marks ≡ done ranks (before_stranger s ranks c.records arrivals)
order_found s ranks c arrivals h = grind (arith, nat_tests, found_first, done_is, before_stranger)

-- ---- what the owner tells

pub done_by_arrivals : (s : Setting) (ranks : ℕ) (c : Counted) (arrivals : List Arrival) (marks : List Mark) (number : Option ℕ) → list_all (λ a. nat_lt a.0 ranks) arrivals ≡ true
    → marks ≡ (served s (first_owner (replicate ranks free_client) c) arrivals).marks → number ≡ (served s (first_owner (replicate ranks free_client) c) arrivals).stranger
    → IsDoneByArrivals s ranks c.records arrivals marks number
done_by_arrivals s ranks c arrivals marks number h e f = record { order = e ∙ order_found s ranks c arrivals h; stranger = f ∙ stranger_found s ranks c arrivals h }

pub cut_by_arrivals : (s : Setting) (ranks : ℕ) (c : Counted) (arrivals first later : List Arrival) (marks : List Mark) → list_all (λ a. nat_lt a.0 ranks) arrivals ≡ true
    → arrivals ≡ first ++ later → (served s (first_owner (replicate ranks free_client) c) first).stranger ≡ None
    → marks ≡ (served s (first_owner (replicate ranks free_client) c) first).marks → IsCutByArrivals s ranks c.records arrivals marks
cut_by_arrivals s ranks c arrivals first later marks h all none e =
    grind (arith, common_steps, and_first (list_all (λ a. nat_lt a.0 ranks) first), stranger_found s ranks c first, done_is s ranks c first)
