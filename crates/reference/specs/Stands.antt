-- A run between two of its steps. (own)
--     all_arrived runners         the ranks at their next offers
--     stand_of stand            file and count, and the ranks so
--     AreWaiting, DoFit ..      each rank waits with an offer; each reply fits the rank's offer
--     Heard header reply a b    a rank heard the reply, and went on
--     AllHear, HaveHeard        the same of all ranks: by these replies, and by some
--     HasHeard header rank ..   the same of one rank alone
--     AreFirst script header n runners   the first n ranks at their first offers
--     IsStanding script header order stand   the run has done these steps
use Rattle.std.specs.Prelude.{◌≡◌, ◌≢◌, ℕ, ◌<◌, List, [], map, take, length, Some, slice_get}
use Rattle.nc_base.specs.declared.header.Header.{Header}
use Rattle.nc_base.specs.declared.request.Call.{Call}
use Rattle.nc_base.specs.declared.script.Script.{Script}
use Rattle.nc_base.specs.declared.step.Mark.{Mark}
use Rattle.nc_base.specs.declared.step.Offer.{Offer}
use Rattle.nc_base.specs.declared.step.Reply.{Reply}
use Rattle.serial_spec.specs.Limits.{record_limit}
use Rattle.serial_spec.specs.RankSide.{DoesFit}
use Rattle.serial_spec.specs.SerialEnd.{advance, first_going, hears}
use Rattle.reference.specs.Requests.{counted}
use Rattle.run_laws.specs.Arrivals as arrivals
use Rattle.reference.specs.Running.{arrived, going_of, HasGone, IsRunner, IsWaiting}
use Rattle.reference.specs.declared.runners.Runner.{Runner}
use Rattle.reference.specs.declared.stand.Stand.{Stand}

abbrev pub all_arrived : List Runner → List arrivals.Arrived
all_arrived runners = map arrived runners

abbrev pub stand_of : Stand → arrivals.Stand
stand_of stand = (counted stand.file.items stand.records, all_arrived stand.runners.items)

-- ---- the ranks of a step

abbrev pub AreWaiting : Header → List Runner → Type 0
AreWaiting header runners = (r : ℕ) (runner : Runner) → slice_get runners r ≡ Some runner → IsWaiting header runner

abbrev pub DoFit : Header → List Runner → List Reply → Type 0
DoFit header runners replies = (r : ℕ) (runner : Runner) (o : Offer) (y : Reply) → slice_get runners r ≡ Some runner → runner.held ≡ Some o
    → slice_get replies r ≡ Some y → DoesFit header o y

pub record Heard (header : Header) (reply : Reply) (a b : Runner) : Type 0 where
  pub of_header : b.rank.header ≡ header
  pub gone : HasGone header (hears header (going_of a) reply) (going_of b) b.held

pub record AllHear (header : Header) (replies : List Reply) (before now : List Runner) : Type 0 where
  pub long : length now ≡ length before
  pub each : (r : ℕ) (a b : Runner) (y : Reply) → slice_get before r ≡ Some a → slice_get now r ≡ Some b → slice_get replies r ≡ Some y → Heard header y a b

-- a reply whose count the header can have
pub record HeardOne (header : Header) (a b : Runner) : Type 0 where
  pub reply : Reply
  pub low : reply.records < record_limit header.version
  pub heard : Heard header reply a b

pub record HaveHeard (header : Header) (before now : List Runner) : Type 0 where
  pub long : length now ≡ length before
  pub each : (r : ℕ) (a b : Runner) → slice_get before r ≡ Some a → slice_get now r ≡ Some b → HeardOne header a b

pub record HasHeard (header : Header) (rank : ℕ) (before now : List Runner) : Type 0 where
  pub long : length now ≡ length before
  pub own : (a b : Runner) → slice_get before rank ≡ Some a → slice_get now rank ≡ Some b → HeardOne header a b
  pub others : (r : ℕ) → r ≢ rank → slice_get now r ≡ slice_get before r

-- ---- the run

pub record AreFirst (script : Script) (header : Header) (n : ℕ) (runners : List Runner) : Type 0 where
  pub long : length runners ≡ n
  pub arrived : all_arrived runners ≡ map (λ (own : List Call). advance header (first_going header own)) (take n script.calls)
  pub each : (r : ℕ) (runner : Runner) → slice_get runners r ≡ Some runner → IsRunner script header [] r runner

pub record IsStanding (script : Script) (header : Header) (order : List Mark) (stand : Stand) : Type 0 where
  pub all : length stand.runners.items ≡ script.ranks
  pub records : stand.records < record_limit header.version
  pub each : (r : ℕ) (runner : Runner) → slice_get stand.runners.items r ≡ Some runner → IsRunner script header order r runner
