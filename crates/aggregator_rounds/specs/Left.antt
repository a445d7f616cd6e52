-- What of sorted entries is left when the bytes before a place were served. (own)
--     IsPast place whole left         what is left of entries without some that end at the place or before
--     filter_past place list          those that end past the place
--     entries_left u                  those that are carried, and those ahead
--     BeginBefore place left front    the entries in front that begin before the place
use Rattle.std.specs.Prelude.{◌≡◌, ℕ, ◌+◌, ◌<◌, ◌≤◌, List, [], ◌∷◌, ◌++◌, ◌⊎◌, filter, nat_lt}
use Rattle.nc_base.specs.declared.plan.Owned.{Owned}
use Rattle.overlay_laws.specs.Entries.{In}
use Rattle.aggregator_rounds.specs.declared.unserved.Unserved.{Unserved}

abbrev pub IsPast : ℕ → List Owned → List Owned → Type 0
IsPast place [] left = left ≡ []
IsPast place (o ∷ whole) left =
    ((o.extent.at + o.extent.len ≤ place) × IsPast place whole left) ⊎ ((rest : List Owned) × (left ≡ o ∷ rest) × IsPast place whole rest)

abbrev pub filter_past : ℕ → List Owned → List Owned
filter_past place list = filter (λ o. nat_lt place (o.extent.at + o.extent.len)) list

abbrev pub entries_left : Unserved → List Owned
entries_left u = u.carried.items ++ u.ahead.now

pub record BeginBefore (place : ℕ) (left front : List Owned) : Type 0 where
  pub rest : List Owned
  pub joined : left ≡ front ++ rest
  pub before : (o : Owned) → In front o → o.extent.at < place
  pub later : (o : Owned) → In rest o → place ≤ o.extent.at
