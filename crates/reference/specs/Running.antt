-- Where the rank of a runner stands. (own)
--     going_of runner             its state, its answers, and the calls that are left
--     arrived runner              the same with the offer that it holds
--     MayGoOn s                 a rank of a lawful script between two of its calls
--     IsAsked header rank o     an offer that a step takes, whose reply the rank waits for
--     HasGone header from s held   from there the rank has gone on to its next offer, or to its end
--     IsPlaced ..               rank r when a run has done an order of marks: at its offer, or at its end
--     IsRunner .. r runner          the same with what it knows and asks
--     IsWaiting header runner     it holds an offer, and may go on after the reply
use Rattle.std.specs.Prelude.{◌≡◌, ℕ, ◌<◌, ◌⊎◌, List, [], true, Option, Some, None, IfSome, IsSomeAnd, is_some}
use Rattle.nc_base.specs.declared.header.Header.{Header}
use Rattle.nc_base.specs.declared.script.Script.{Script}
use Rattle.nc_base.specs.declared.step.Mark.{Mark}
use Rattle.nc_base.specs.declared.step.Offer.{Offer}
use Rattle.nc_base.specs.declared.step.Reply.{Reply}
use Rattle.serial_spec.specs.Lawful.{is_lawful}
use Rattle.serial_spec.specs.Limits.{record_limit}
use Rattle.serial_spec.specs.RankMachine as machine
use Rattle.serial_spec.specs.SerialEnd.{Going, advance, hears}
use Rattle.reference.specs.Requests.{IsRight}
use Rattle.run_laws.specs.Arrivals.{Arrived}
use Rattle.run_laws.specs.Ways.{AsksAlone, IsOnWay}
use Rattle.reference.specs.declared.runners.Runner.{Runner}

abbrev pub going_of : Runner → Going
going_of runner = record { rank = runner.rank.state; answers = runner.answers; calls = runner.calls.now }

abbrev pub arrived : Runner → Arrived
arrived runner = (going_of runner, runner.held)

pub record MayGoOn (s : Going) : Type 0 where
  pub script : Script
  pub order : List Mark
  pub r : ℕ
  pub lawful : is_lawful script ≡ true
  pub one_of : r < script.ranks
  pub way : IsOnWay script order r s None

pub record IsAsked (header : Header) (rank : machine.Rank) (o : Offer) : Type 0 where
  pub right : IsRight header o
  pub known : o.known ≡ rank.known
  pub waits : is_some rank.«open» ≡ true
  pub gets : IfSome rank.«open» (λ w. w.gets ≡ o.batch.gets)

abbrev pub IsPlaced : Script → Header → List Mark → ℕ → Going → Option Offer → Type 0
IsPlaced script header order r s None = IsOnWay script order r s None × (s.calls ≡ [])
IsPlaced script header order r s (Some o) = IsOnWay script order r s (Some o) ⊎ AsksAlone script header order r s o

pub record HasGone (header : Header) (from s : Going) (held : Option Offer) : Type 0 where
  pub known : s.rank.known ≡ from.rank.known
  pub arrived : (s, held) ≡ advance header from
  pub asked : IfSome held (IsAsked header s.rank)
  pub placed : (script : Script) (order : List Mark) (r : ℕ) → IsOnWay script order r from None → IsPlaced script header order r s held

pub record IsRunner (script : Script) (header : Header) (order : List Mark) (r : ℕ) (runner : Runner) : Type 0 where
  pub of_header : runner.rank.header ≡ header
  pub low : runner.rank.state.known < record_limit header.version
  pub asked : IfSome runner.held (IsAsked header runner.rank.state)
  pub placed : IsPlaced script header order r (going_of runner) runner.held

pub record IsWaiting (header : Header) (runner : Runner) : Type 0 where
  pub of_header : runner.rank.header ≡ header
  pub low : runner.rank.state.known < record_limit header.version
  pub asked : IsSomeAnd runner.held (IsAsked header runner.rank.state)
  pub ready : (reply : Reply) → MayGoOn (hears header (going_of runner) reply)
