-- What a call came to. (own)
--     IsStepTo before after most stepped want   the model's rank and want; what it offers a step takes; at most so many posts more
--     offers_towards rank kind direction look   what a blocking call offers
--     most_posts call                           how many posts a call brings
use Rattle.std.specs.Prelude.{◌≡◌, ◌≤◌, ◌<◌, ◌+◌, ℕ, max, length}
use Rattle.nc_base.specs.declared.step.OfferKind.{OfferKind}
use Rattle.nc_base.specs.declared.step.Want.{Want}
use Rattle.nc_base.specs.declared.request.Direction.{Direction}
use Rattle.nc_base.specs.declared.request.Call.{Call}
use Rattle.nc_base.specs.declared.request.Call.TheVariants as call
use Rattle.nc_base.specs.declared.request.Given.{Given}
use Rattle.serial_spec.specs.Looks as looks
use Rattle.serial_spec.specs.RankMachine as machine
use Rattle.rank_core.specs.OpenOffers.{batch_towards}
use Rattle.rank_core.specs.Offered.{posts_offered, IsSoundWant}
use Rattle.rank_core.specs.Ranked.{Ranked}
use Rattle.run_laws.specs.Requests.{posts_held}
use Rattle.rank_core.specs.declared.look.Look.{Look}
use Rattle.rank_core.specs.declared.look.Look.TheVariants.{Asks}

pub record IsStepTo (before after : Ranked) (most : ℕ) (stepped : machine.Rank × Want) (want : Want) : Type 0 where
  pub right : (after.state, want) ≡ stepped
  pub sound : IsSoundWant before.header want
  pub few : posts_offered want ≤ posts_held before.state + most
  pub held : posts_held after.state ≤ posts_held before.state + most

abbrev pub most_of : Given → ℕ
most_of given = max 1 (length given.parts)

abbrev pub most_posts : Call → ℕ
most_posts (call.Put all name given values) = most_of given
most_posts (call.Get all name given) = most_of given
most_posts (call.Post id kind name given values) = most_of given
most_posts (call.FillRec name number share ranks) = 65
most_posts _ = 0

abbrev pub offers_towards : machine.Rank → OfferKind → Direction → looks.Look → machine.Rank × Want
offers_towards r kind direction l =
    machine.offers_look r kind l (batch_towards direction (machine.posts_of l))

-- one that asks for regions asks for some
abbrev pub IsSomeLook : Look → Type 0
IsSomeLook (Asks posts) = 0 < length posts
IsSomeLook _ = Unit {0}
