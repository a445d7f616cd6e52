-- Lists that are made before any part is handed out. (own)
--     HasRooms n shares     they are empty, and each has room for so many items
--     HasRoom shares        a helper more and a part more have room
use Rattle.std.specs.Prelude.{◌≡◌, ℕ, ◌<◌, ◌≤◌, [], length, vec_capacity}
use Rattle.exchange_crew.specs.declared.shares.Shares.{Shares}

pub record HasRooms {W D : Type 0} (n : ℕ) (shares : Shares W D) : Type 0 where
  pub no_workers : shares.workers.items ≡ []
  pub no_rest : shares.rest.items ≡ []
  pub no_back : shares.back.items ≡ []
  pub for_workers : n ≤ vec_capacity shares.workers
  pub for_rest : n ≤ vec_capacity shares.rest
  pub for_back : n ≤ vec_capacity shares.back

pub record HasRoom {W D : Type 0} (shares : Shares W D) : Type 0 where
  pub for_worker : length shares.workers.items < vec_capacity shares.workers
  pub for_rest : length shares.rest.items < vec_capacity shares.rest
