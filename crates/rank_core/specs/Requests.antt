-- The requests of a rank, and the offer that it waits with. (own)
--     AreGets header known posts        regions that a get takes; two posts of one id are of one variable
--     ArePuts header known posts        regions that a put takes, with their bytes; no request holds a byte twice
--     AreTowards direction ..           the one or the other
--     AreRequests header known posted   such are the posts of each request that waits, under its id; the ids are different
--     AreOnce items                     no two items that are Ok have one id
--     IsOpen header known o             what the answer to the reply needs
use Rattle.std.specs.Prelude.{◌≡◌, ℕ, List, [], ◌∷◌, map, true, None}
use Rattle.nc_base.specs.declared.header.Header.{Header}
use Rattle.nc_base.specs.declared.plan.Post.{Post}
use Rattle.nc_base.specs.declared.answer.Item.{Item}
use Rattle.nc_base.specs.declared.request.Direction.{Direction}
use Rattle.nc_base.specs.declared.request.Direction.TheVariants.{Put, Get}
use Rattle.nc_base.specs.declared.request.PostKind.{PostKind}
use Rattle.nc_base.specs.declared.request.PostKind.TheVariants.{Iget}
use Rattle.overlay_laws.specs.Entries.{In}
use Rattle.serial_spec.specs.RankMachine.{Posted, Status, Waiting, Open, status_of}
use Rattle.serial_spec.specs.RegionCheck.{is_ok_code}
use Rattle.serial_spec.specs.SharedByte.{holdings, IsOwnOnce}
use Rattle.rank_core.specs.Offered.{IsPut, IsGet}

pub record AreGets (header : Header) (known : ℕ) (posts : List Post) : Type 0 where
  pub each : (p : Post) → In posts p → IsGet header known p
  pub var : (p q : Post) → In posts p → In posts q → p.id ≡ q.id → p.var ≡ q.var

pub record ArePuts (header : Header) (known : ℕ) (posts : List Post) : Type 0 where
  pub each : (p : Post) → In posts p → IsPut header known p
  pub own : (rank : ℕ) → IsOwnOnce (holdings header (map (λ p. (rank, p)) posts))

abbrev pub AreTowards : Direction → Header → ℕ → List Post → Type 0
AreTowards Put header known posts = ArePuts header known posts
AreTowards Get header known posts = AreGets header known posts

abbrev pub direction_of_kind : PostKind → Direction
direction_of_kind Iget = Get
direction_of_kind _ = Put

abbrev pub HaveId : ℕ → List Post → Type 0
HaveId id posts = (p : Post) → In posts p → p.id ≡ id

abbrev pub IsRequest : Header → ℕ → ℕ → Status → Type 0
IsRequest header known id (Waiting kind posts) = HaveId id posts × AreTowards (direction_of_kind kind) header known posts
IsRequest header known id _ = Unit {0}

abbrev pub AreRequests : Header → ℕ → List Posted → Type 0
AreRequests header known [] = Unit {0}
AreRequests header known (p ∷ posted) = IsRequest header known p.id p.status × (status_of posted p.id ≡ None) × AreRequests header known posted

abbrev pub AreOnce : List Item → Type 0
AreOnce [] = Unit {0}
AreOnce (i ∷ items) =
    (is_ok_code i.code ≡ true → (j : Item) → In items j → is_ok_code j.code ≡ true → j.id ≡ i.id → ⊥) × AreOnce items

pub record IsOpen (header : Header) (known : ℕ) (o : Open) : Type 0 where
  pub gets : AreGets header known o.gets
  pub alone : o.blocking ≡ true → o.items ≡ []
  pub once : AreOnce o.items
