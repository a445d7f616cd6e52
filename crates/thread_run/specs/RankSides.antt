-- A rank's side of a run with threads. (own)
--     IsAccounted header own put taken at     what was put and taken so far brought the rank there
--     HasFinished .. end                      what the rank put and came to, by the items that it took
--     HasBroken .. answered                   the offers that it put, and its answers, until it wanted memory; then it put one end
--     HasAttended .. end                      the one or the other, and one item taken for each offer
use Rattle.std.specs.Prelude.{◌≡◌, List, [], ◌∷◌, ◌++◌, length, true, false, Option, Some, Ok, Err, Result}
use Rattle.std.specs.List.{list_all}
use Rattle.nc_base.specs.declared.answer.Answer.{Answer}
use Rattle.nc_base.specs.declared.header.Header.{Header}
use Rattle.nc_base.specs.declared.memory.Memory.{Memory}
use Rattle.nc_base.specs.declared.request.Call.{Call}
use Rattle.nc_base.specs.declared.run.RankEnd.{RankEnd}
use Rattle.nc_base.specs.declared.run.RankStop.{RankStop}
use Rattle.nc_base.specs.declared.run.RankStop.TheVariants as stop
use Rattle.nc_base.specs.declared.step.Offer.{Offer}
use Rattle.nc_base.specs.declared.step.OwnerItem.{OwnerItem}
use Rattle.nc_base.specs.declared.step.RankItem.{RankItem}
use Rattle.nc_base.specs.declared.step.RankItem.TheVariants as item
use Rattle.serial_spec.specs.History.{is_offer}
use Rattle.serial_spec.specs.Owner.{offers_in}
use Rattle.serial_spec.specs.RankMachine as machine
use Rattle.serial_spec.specs.RankSide.{end_by, offered, offered_by, rank_end, rank_stop, stop_by}
use Rattle.serial_spec.specs.SerialEnd.{Going, first_going}
use Rattle.turn_run.specs.declared.runners.Runner.{Runner}

-- Whatever comes back later, the rank goes on from there.
pub record IsAccounted (header : Header) (own : List Call) (put : List RankItem) (taken : List OwnerItem) (at : Going × Option Offer) : Type 0 where
  pub offers : (later : List OwnerItem) → offered header (first_going header own) (taken ++ later) ≡ put ++ offered_by header at later
  pub ends : (later : List OwnerItem) → rank_end header (first_going header own) (taken ++ later) ≡ end_by header at later
  pub stops : (later : List OwnerItem) → rank_stop header (first_going header own) (taken ++ later) ≡ stop_by header at later
  pub one_each : length taken ≡ offers_in put
  pub only_offers : list_all is_offer put ≡ true

pub record HasFinished (header : Header) (own : List Call) (put : List RankItem) (taken : List OwnerItem) (end : RankEnd) : Type 0 where
  pub put_all : put ≡ offered header (first_going header own) taken
  pub stop : Some end.end ≡ rank_stop header (first_going header own) taken
  pub answers : end.answers ≡ (rank_end header (first_going header own) taken).answers
  pub known : end.known ≡ (rank_end header (first_going header own) taken).rank.known
  pub pending : end.pending ≡ machine.pending (rank_end header (first_going header own) taken).rank

pub record HasBroken (header : Header) (own : List Call) (put : List RankItem) (taken : List OwnerItem) (answered : List Answer) : Type 0 where
  pub sent : List RankItem
  pub unsent : List RankItem
  pub put_some : put ≡ sent ++ item.Ended true ∷ []
  pub only_offers : list_all is_offer sent ≡ true
  pub begins : sent ++ unsent ≡ offered header (first_going header own) taken
  pub unanswered : List Answer
  pub answers : answered ++ unanswered ≡ (rank_end header (first_going header own) taken).answers

pub record HasAttended (header : Header) (own : List Call) (put : List RankItem) (taken : List OwnerItem) (end : RankEnd) : Type 0 where
  pub one_each : length taken ≡ offers_in put
  pub finished : (end.end ≡ stop.Memory → ⊥) → HasFinished header own put taken end
  pub broken : end.end ≡ stop.Memory → HasBroken header own put taken end.answers

-- ---- before the last item is put

pub record IsThrough (header : Header) (own : List Call) (put : List RankItem) (taken : List OwnerItem) (runner : Runner) (end : RankStop) : Type 0 where
  pub not_broken : end ≡ stop.Memory → ⊥
  pub put_all : put ++ item.Ended false ∷ [] ≡ offered header (first_going header own) taken
  pub stop : Some end ≡ rank_stop header (first_going header own) taken
  pub answers : runner.answers ≡ (rank_end header (first_going header own) taken).answers
  pub state : runner.rank.state ≡ (rank_end header (first_going header own) taken).rank

-- the offers put and the answers that it has begin those by the items that it took
pub record IsBroken (header : Header) (own : List Call) (put : List RankItem) (taken : List OwnerItem) (answered : List Answer) : Type 0 where
  pub only_offers : list_all is_offer put ≡ true
  pub unsent : List RankItem
  pub begins : put ++ unsent ≡ offered header (first_going header own) taken
  pub unanswered : List Answer
  pub answers : answered ++ unanswered ≡ (rank_end header (first_going header own) taken).answers

abbrev pub Stands : Header → List Call → List RankItem → List OwnerItem → Runner → Result RankStop Memory → Type 0
Stands header own put taken runner (Ok end) = IsThrough header own put taken runner end
Stands header own put taken runner (Err e) = IsBroken header own put taken runner.answers

pub record HasStood (header : Header) (own : List Call) (put : List RankItem) (taken : List OwnerItem) (runner : Runner) (result : Result RankStop Memory) : Type 0 where
  pub one_each : length taken ≡ offers_in put
  pub stands : Stands header own put taken runner result
