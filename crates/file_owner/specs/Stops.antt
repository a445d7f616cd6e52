-- Stops for the offers that get no reply, and the ends of numbers. (own)
--     held_stops clients q        a stop on the line of each number whose offer is held
--     stops_for arrivals q      a stop for each offer that arrived
--     put_one place x q         the item on the line of this place
--     HaveEnded ended arrivals  each number that is noted has put its end
--     IsMore old more now       what was taken since
--     HaveMet ..                a stop for each offer that came
--     HasMetAll ..              the same until all numbers had ended
use Rattle.std.specs.Prelude.{◌≡◌, ℕ, ◌<◌, List, [], ◌∷◌, ◌++◌, filter, map, nat_lt, ◌==◌, Bool, true, false, Some, slice_get, IsTrue}
use Rattle.std.specs.List.{list_all}
use Rattle.nc_base.specs.declared.step.OwnerItem.{OwnerItem}
use Rattle.nc_base.specs.declared.step.OwnerItem.TheVariants.{Stop}
use Rattle.nc_base.specs.declared.step.RankItem.{RankItem}
use Rattle.ruled_line.specs.Ends.{End, Receiver}
use Rattle.serial_spec.specs.Owner.{Client, own_items, stop_held}
use Rattle.serial_spec.specs.History.{Arrival, is_offer}
use Rattle.serial_spec.specs.Joined.{HasEnd}
use Rattle.file_owner.specs.Owned.{Grows}

abbrev pub held_stops : List Client → ℕ → List OwnerItem
held_stops clients q = stop_held (slice_get clients q)

abbrev pub client_stops : ℕ → Client → ℕ → List OwnerItem
client_stops place x q = elim (q == place) [ true ↦ stop_held (Some x) | false ↦ [] ]

abbrev pub stops_for : List Arrival → ℕ → List OwnerItem
stops_for arrivals q = map (λ i. Stop) (filter is_offer (own_items q arrivals))

-- one item on one line
abbrev pub put_one : ℕ → OwnerItem → ℕ → List OwnerItem
put_one place x q = elim (q == place) [ true ↦ x ∷ [] | false ↦ [] ]

abbrev pub stop_each : ℕ → List OwnerItem
stop_each q = Stop ∷ []

abbrev pub HaveEnded : List Bool → List Arrival → Type 0
HaveEnded ended arrivals = (q : ℕ) → slice_get ended q ≡ Some true → HasEnd (own_items q arrivals)

abbrev pub AllHaveEnded : ℕ → List Bool → Type 0
AllHaveEnded senders ended = (q : ℕ) → q < senders → slice_get ended q ≡ Some true

-- these were taken, from senders below their number
pub record IsMore (old : Receiver RankItem) (more : List Arrival) (now : Receiver RankItem) : Type 0 where
  pub items : now.items ≡ old.items ++ more
  pub senders : now.senders ≡ old.senders
  pub of : now.of ≡ old.of
  pub numbers : IsTrue (list_all (λ a. nat_lt a.0 old.senders) more)

-- a stop for each offer that came
pub record HaveMet (old now : Receiver RankItem) (before after : List (End OwnerItem)) (flags left : List Bool) : Type 0 where
  pub more : List Arrival
  pub taken : IsMore old more now
  pub stopped : Grows before (stops_for more) after
  pub noted : (arrivals : List Arrival) → HaveEnded flags arrivals → HaveEnded left (arrivals ++ more)

pub record HasMetAll (old now : Receiver RankItem) (before after : List (End OwnerItem)) (flags left : List Bool) : Type 0 where
  pub met : HaveMet old now before after flags left
  pub all : AllHaveEnded old.senders left
