-- Whose the bytes of a hull are, by the entries that may have some.
use Rattle.window_plan.proofs.Words.{◌≡◌, ℕ, ◌+◌, ◌≤◌, refl, List, [], ◌∷◌, ◌++◌, false, arith, nat_tests, flat_map-append, append-nil, nat_lt, Extent, Owned, IsPast, In, owner_between, owner_in, owners_in}

no_owner : (rank at stop : ℕ) → stop ≤ at → owner_between rank at stop ≡ []
no_owner rank at stop h = let past : nat_lt at stop ≡ false = grind (arith, nat_tests) in rw past

-- what ends before a hull has none of its bytes
past_owners : (hull : Extent) (place : ℕ) (whole left : List Owned) → place ≤ hull.at → IsPast place whole left → owners_in hull whole ≡ owners_in hull left
past_owners hull place [] left l h = grind (arith, nat_tests)
past_owners hull place (o ∷ whole) left l h = grind (arith, nat_tests, no_owner, past_owners hull place whole, owners_in)

-- what begins behind a hull has none of its bytes
later_owners : (hull : Extent) (rest : List Owned) → ((o : Owned) → In rest o → hull.at + hull.len ≤ o.extent.at) → owners_in hull rest ≡ []
later_owners hull [] h = refl
later_owners hull (o ∷ rest) h = grind (arith, nat_tests, h o, no_owner, later_owners hull rest, h)

-- the owners of a hull's bytes are those by the entries that may have bytes of it
pub served_owners : (hull : Extent) (place stop : ℕ) (list left served rest : List Owned) → IsPast place list left → left ≡ served ++ rest
    → ((o : Owned) → In rest o → stop ≤ o.extent.at) → place ≤ hull.at → hull.at + hull.len ≤ stop → owners_in hull list ≡ owners_in hull served
served_owners hull place stop list left served rest past joined later low high =
    let none = later_owners hull rest (λ o m. let l = later o m in omega arith) in
    rw (past_owners hull place list left low past, joined, flat_map-append (owner_in hull) served rest, none, append-nil (owners_in hull served))
