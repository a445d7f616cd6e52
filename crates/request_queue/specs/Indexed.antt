-- How a request that waits is found: it stands under its place, and its place under its id.
use Rattle.std.specs.Prelude.{◌≡◌, ◌<◌, ◌↔◌, ◌==◌, ℕ, List, Bool, false, Option, Some, None, option_map}
use Rattle.std.specs.List.{All}
use Rattle.std.specs.Ordering.{nat_cmp}
use Rattle.std.specs.BTreeMap.{BTreeMap, get, values, IsOrdered}
use Rattle.request_queue.specs.declared.queue.Request.{Request}
use Rattle.request_queue.specs.declared.requests.Requests.TheInside.{Inside}

-- the requests in order of their places
abbrev pub in_order : Inside → List Request
in_order a = values a.by_place

-- an id has a place exactly if the request at that place has the id
abbrev pub IsIndex : BTreeMap ℕ ℕ → BTreeMap ℕ Request → Type 0
IsIndex places by_place = (id place : ℕ) → (get nat_cmp places id ≡ Some place) ↔ (option_map (λ (r : Request). r.id) (get nat_cmp by_place place) ≡ Some id)

pub record IsIndexed (a : Inside) : Type 0 where
  pub ordered : IsOrdered nat_cmp a.by_place
  pub earlier : All (λ e. e.0 < a.next) a.by_place.entries
  pub index : IsIndex a.places a.by_place

-- the place is this one
abbrev pub is_place : ℕ → Option ℕ → Bool
is_place place None = false
is_place place (Some p) = p == place

-- the id has this place
abbrev pub stands_at : BTreeMap ℕ ℕ → ℕ → ℕ → Bool
stands_at places place id = is_place place (get nat_cmp places id)
