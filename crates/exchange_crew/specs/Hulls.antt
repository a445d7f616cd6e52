-- What holds of the hulls of a part's windows. (own)
--     AreTurns list room windows           hulls one after another, each ending with a byte of an entry and no longer than the room
--     LieOnPart from len windows           each hull lies on the part that begins at this place and has so many bytes
--     IsInReach from len room window       a hull lies on that part, and is no longer than the room
--     HaveWindows from len list windows    each covered byte of the part lies in a hull
use Rattle.std.specs.Prelude.{◌≡◌, ℕ, ◌+◌, ◌-◌, ◌^◌, ◌<◌, ◌≤◌, List, [], ◌∷◌, true}
use Rattle.nc_base.specs.declared.plan.Owned.{Owned}
use Rattle.overlay_laws.specs.Entries.{In}
use Rattle.aggregator_rounds.specs.EntryParts.{IsCovered}
use Rattle.exchange_crew.specs.Turns.{Told}

pub record IsTurn (list : List Owned) (room : ℕ) (t : Told) : Type 0 where
  pub some : 1 ≤ t.1
  pub short : t.1 ≤ room
  pub last : IsCovered list (t.0 + t.1 - 1)
  pub full : t.2 ≡ true → (x : ℕ) → t.0 ≤ x → x < t.0 + t.1 → IsCovered list x

abbrev pub AreTurns : List Owned → ℕ → List Told → Type 0
AreTurns list room [] = Unit {0}
AreTurns list room (t ∷ ts) = IsTurn list room t × ((u : Told) → In ts u → t.0 + t.1 ≤ u.0) × AreTurns list room ts

abbrev pub LieOnPart : ℕ → ℕ → List Told → Type 0
LieOnPart from len ts = (t : Told) → In ts t → (from ≤ t.0) × (t.0 + t.1 ≤ from + len)

pub record IsInReach (from len room : ℕ) (t : Told) : Type 0 where
  pub low : from ≤ t.0
  pub high : t.0 + t.1 ≤ from + len
  pub limit : t.0 + t.1 < 2 ^ 62
  pub short : t.1 ≤ room

abbrev pub HaveWindows : ℕ → ℕ → List Owned → List Told → Type 0
HaveWindows from len list ts = (x : ℕ) → from ≤ x → x < from + len → IsCovered list x → (t : Told) × In ts t × (t.0 ≤ x) × (x < t.0 + t.1)
