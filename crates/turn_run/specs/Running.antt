-- Where the rank of a runner stands. (own)
--     calls_of script r         the calls of rank r
--     going_of own runner         its state, its answers, and the calls that are left
--     IsPlaced ..               it is on its way, between two calls or with the offer that it holds
--     IsRunner ..                 the same with what it brings
--     HasArrived own runner       it holds an offer of a meeting, or has made its calls
--     AreRunners, HaveArrived     the same of all ranks
use Rattle.std.specs.Prelude.{◌≡◌, ℕ, suc, List, [], ◌∷◌, ◌++◌, map, drop, length, true, Option, Some, None, IfSome, is_some, slice_get}
use Rattle.std.specs.List.{list_all}
use Rattle.nc_base.specs.declared.header.Header.{Header}
use Rattle.nc_base.specs.declared.request.Call.{Call}
use Rattle.nc_base.specs.declared.script.Script.{Script}
use Rattle.nc_base.specs.declared.step.Mark.{Mark}
use Rattle.nc_base.specs.declared.step.Offer.{Offer}
use Rattle.nc_base.specs.declared.step.Reply.{Reply}
use Rattle.nc_base.specs.declared.answer.Answer.{Answer}
use Rattle.nc_base.specs.declared.answer.Pair.{Pair}
use Rattle.serial_spec.specs.RankSide.{wanted}
use Rattle.nc_base.specs.declared.step.OfferKind.{OfferKind}
use Rattle.nc_base.specs.declared.step.OfferKind.TheVariants as offer
use Rattle.serial_spec.specs.History.{is_of_rank_below}
use Rattle.serial_spec.specs.RankMachine as machine
use Rattle.serial_spec.specs.SerialEnd.{Going}
use Rattle.run_laws.specs.Ways.{AsksAlone, IsOnWay}
use Rattle.turn_run.specs.Counts.{IsAsked, IsCount}
use Rattle.turn_run.specs.declared.runners.Runner.{Runner}

abbrev pub calls_of : Script → ℕ → List Call
calls_of script r = elim (slice_get script.calls r) [ None ↦ [] | Some own ↦ own ]

-- after so many calls
abbrev pub going_after : ℕ → List Call → Runner → Going
going_after n own runner = record { rank = runner.rank.state; answers = runner.answers; calls = drop n own }

-- between two calls, of which it has answered all that it began
abbrev pub between : List Call → Runner → Going
between own runner = going_after (length runner.answers) own runner

-- at the call that it has begun and not answered
abbrev pub asking : List Call → Runner → Going
asking own runner = going_after (suc (length runner.answers)) own runner

abbrev pub going_of : List Call → Runner → Going
going_of own runner = elim (runner.held) [ None ↦ between own runner | Some o ↦ asking own runner ]

-- with an offer of this kind
abbrev pub IsPlacedWith : Script → Header → List Mark → ℕ → Going × Offer → OfferKind → Type 0
IsPlacedWith script header order r x offer.Solo = AsksAlone script header order r x.0 x.1
IsPlacedWith script header order r x (offer.Meet kind) = IsOnWay script order r x.0 (Some x.1)

abbrev pub IsPlaced : Script → Header → List Mark → ℕ → Going → Option Offer → Type 0
IsPlaced script header order r s None = IsOnWay script order r s None
IsPlaced script header order r s (Some o) = IsPlacedWith script header order r (s, o) o.kind

pub record IsRunner (script : Script) (header : Header) (order : List Mark) (r : ℕ) (runner : Runner) : Type 0 where
  pub of_header : runner.rank.header ≡ header
  pub placed : IsPlaced script header order r (going_of (calls_of script r) runner) runner.held
  pub asked : IfSome runner.held (IsAsked header runner.rank.state.known)

-- its rank heard the reply, and answered the call
pub record HasHeard (before now : Runner) (reply : Reply) : Type 0 where
  pub answer : Answer
  pub heard : (now.rank.state, answer) ≡ machine.hear before.rank.header before.rank.state reply
  pub answers : now.answers ≡ before.answers ++ answer ∷ []

-- its offer is one of a meeting
abbrev pub IsMet : Option Offer → Type 0
IsMet None = Unit {0}
IsMet (Some o) = (o.kind ≡ offer.Solo) → ⊥

pub record HasArrived (own : List Call) (runner : Runner) : Type 0 where
  pub met : IsMet runner.held
  pub ended : runner.held ≡ None → drop (length runner.answers) own ≡ []

-- ---- all ranks

pub record AreRunners (script : Script) (header : Header) (len : ℕ) (order : List Mark) (runners : List Runner) : Type 0 where
  pub all : length runners ≡ script.ranks
  pub known_ranks : list_all (is_of_rank_below script.ranks) order ≡ true
  pub each : (r : ℕ) (runner : Runner) → slice_get runners r ≡ Some runner → IsRunner script header order r runner
  pub known : (r : ℕ) (runner : Runner) → slice_get runners r ≡ Some runner → IsCount header len runner.rank.state.known

abbrev pub AreFree : List Runner → Type 0
AreFree runners = (r : ℕ) (runner : Runner) → slice_get runners r ≡ Some runner → runner.held ≡ None

abbrev pub HaveArrived : Script → List Runner → Type 0
HaveArrived script runners = (r : ℕ) (runner : Runner) → slice_get runners r ≡ Some runner → HasArrived (calls_of script r) runner

abbrev pub HaveMet : List Runner → Type 0
HaveMet runners = (r : ℕ) (runner : Runner) → slice_get runners r ≡ Some runner → is_some runner.held ≡ true

-- it holds no offer any more, and its call is begun
pub record IsFreed (before now : Runner) : Type 0 where
  pub rank : now.rank ≡ before.rank
  pub answers : now.answers ≡ before.answers
  pub held : now.held ≡ None

pub record AreFreed (before now : List Runner) : Type 0 where
  pub long : length now ≡ length before
  pub each : (r : ℕ) (a b : Runner) → slice_get before r ≡ Some a → slice_get now r ≡ Some b → IsFreed a b

-- each waits for as many blobs as it has in the table, each of the right length
pub record IsToHear (runner : Runner) (blobs : List (List ℕ)) : Type 0 where
  pub waits : is_some runner.rank.state.«open» ≡ true
  pub fits : IfSome runner.rank.state.«open» (λ o. map (λ blob. length blob) blobs ≡ map (wanted runner.rank.header) o.gets)

abbrev pub AreToHear : List Runner → List (List (List ℕ)) → Type 0
AreToHear runners table = (r : ℕ) (runner : Runner) (blobs : List (List ℕ)) → slice_get runners r ≡ Some runner → slice_get table r ≡ Some blobs → IsToHear runner blobs

abbrev pub reply_of : Option Pair → ℕ → List (List ℕ) → Reply
reply_of pair records blobs = record { pair = pair; records = records; got = blobs }

pub record IsAnswered (reply : Reply) (before now : Runner) : Type 0 where
  pub heard : HasHeard before now reply
  pub same_header : now.rank.header ≡ before.rank.header
  pub held : now.held ≡ before.held

pub record AreHeard (pair : Option Pair) (records : ℕ) (table : List (List (List ℕ))) (before now : List Runner) : Type 0 where
  pub long : length now ≡ length before
  pub each : (r : ℕ) (a b : Runner) (blobs : List (List ℕ)) → slice_get before r ≡ Some a → slice_get now r ≡ Some b → slice_get table r ≡ Some blobs
      → IsAnswered (reply_of pair records blobs) a b
