-- How far a walk over the windows of a part and over the sorted entries has come. (own)
--     IsAt list room ahead left      what is left of a list has each entry with bytes in a window ahead
--     AreInFront place left front    of what is left, those in front: no other one begins before the place
--     AreServed list begun lo hi     of a list, the entries that may have bytes from lo to hi
use Rattle.std.specs.Prelude.{◌≡◌, ℕ, ◌≤◌, List, ◌++◌}
use Rattle.nc_base.specs.declared.plan.Owned.{Owned}
use Rattle.aggregator_rounds.specs.Left.{IsPast}
use Rattle.overlay_laws.specs.Entries.{In}
use Rattle.exchange_crew.specs.Hulls.{AreTurns}
use Rattle.exchange_crew.specs.Turns.{Told}

-- what of a list is left of it when a walk has come to a place
pub record IsAt (list : List Owned) (room : ℕ) (ahead : List Told) (left : List Owned) : Type 0 where
  pub past : (t : Told) → In ahead t → IsPast t.0 list left
  pub turns : AreTurns list room ahead

pub record AreInFront (place : ℕ) (left front : List Owned) : Type 0 where
  pub rest : List Owned
  pub joined : left ≡ front ++ rest
  pub later : (o : Owned) → In rest o → place ≤ o.extent.at

-- the entries of a list that may have bytes from lo to hi
pub record AreServed (list begun : List Owned) (lo hi : ℕ) : Type 0 where
  pub left : List Owned
  pub past : IsPast lo list left
  pub front : AreInFront hi left begun
