-- The posted requests of a rank and its attached buffer: PnetCDF C API reference, nonblocking and buffered requests.
-- A queue is seen as those two parts of the rank's state, and its calls are those of the rank.
use Rattle.std.specs.Prelude.{◌≡◌, ℕ, List, [], ◌∷◌, ◌++◌, Option}
use Rattle.nc_base.specs.declared.answer.Code.{Code}
use Rattle.nc_base.specs.declared.answer.Code.TheVariants as code
use Rattle.nc_base.specs.declared.answer.CallErr.{CallErr}
use Rattle.nc_base.specs.declared.answer.CallErr.TheVariants as refusal
use Rattle.nc_base.specs.declared.plan.Post.{Post}
use Rattle.serial_spec.specs.RankMachine.{Posted, Rank, Status, new_rank}

pub record Queued : Type 0 where
  pub posted : List Posted
  pub attached : Option ℕ

-- a rank with these requests and this buffer
abbrev pub rank_with : Queued → Rank
rank_with queue = record (new_rank 0) { posted = queue.posted; attached = queue.attached }

abbrev pub with_request : Queued → ℕ → Status → Queued
with_request queue id status = record queue { posted = queue.posted ++ record { id = id; status = status } ∷ [] }

-- the posts of a request have its id
abbrev pub id_of : List Post → ℕ
id_of [] = 0
id_of (post ∷ posts) = post.id

-- the refusal is this code, which is none of Ok
abbrev pub IsCode : Code → CallErr → Type 0
IsCode c e = (e ≡ refusal.Code c) × (c ≡ code.Ok → ⊥)
