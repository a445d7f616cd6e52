-- Ranks that stand ahead of the serial run's, which wait where they heard their last reply. (own)
--     answered, asking          a rank after a call that it answered alone, and at its offer
--     HasCome header g s        the rank g comes to s by calls that it answers alone
--     AreAt, AreEnded           each rank of the serial run comes to its offer, or to its end
--     all_hear                  each rank hears its reply
--     own_step, own_calls       a solo step of a rank by itself, and the device calls of its solo steps
--     calls_so_far              the device calls of an order's steps, without the close
use Rattle.std.specs.Prelude.{◌≡◌, ℕ, List, [], ◌∷◌, ◌++◌, map, zip, length, Bool, false, ◌==◌, Some, None, slice_get}
use Rattle.nc_base.specs.declared.header.Header.{Header}
use Rattle.nc_base.specs.declared.request.Call.{Call}
use Rattle.nc_base.specs.declared.answer.Answer.{Answer}
use Rattle.nc_base.specs.declared.script.Hints.{Hints}
use Rattle.nc_base.specs.declared.step.Mark.{Mark}
use Rattle.nc_base.specs.declared.step.Mark.TheVariants.{Meet, Solo}
use Rattle.nc_base.specs.declared.step.Offer.{Offer}
use Rattle.nc_base.specs.declared.step.Reply.{Reply}
use Rattle.nc_base.specs.declared.step.DiskCall.{DiskCall}
use Rattle.serial_spec.specs.FileStep.{Setting, Counted}
use Rattle.serial_spec.specs.DeviceCalls.{mark_calls, solo_calls}
use Rattle.serial_spec.specs.RankMachine as machine
use Rattle.serial_spec.specs.SerialEnd.{Going, advance, hears, after_mark, solo_of}

-- ---- one rank

abbrev pub answered : Going → machine.Rank → Answer → List Call → Going
answered s next a calls = record { rank = next; answers = s.answers ++ a ∷ []; calls = calls }

abbrev pub asking : Going → machine.Rank → List Call → Going
asking s next calls = record { rank = next; answers = s.answers; calls = calls }

abbrev pub HasCome : Header → Going → Going → Type 0
HasCome header g s = advance header s ≡ advance header g

-- ---- all ranks

pub record AreAt (header : Header) (goings ss : List Going) (offers : List Offer) : Type 0 where
  pub long : length ss ≡ length goings
  pub all : length offers ≡ length goings
  pub each : (r : ℕ) (g s : Going) (o : Offer)
      → slice_get goings r ≡ Some g → slice_get ss r ≡ Some s → slice_get offers r ≡ Some o → advance header g ≡ (s, Some o)

pub record AreEnded (header : Header) (goings ss : List Going) : Type 0 where
  pub long : length ss ≡ length goings
  pub each : (r : ℕ) (g s : Going)
      → slice_get goings r ≡ Some g → slice_get ss r ≡ Some s → advance header g ≡ (s, None)

abbrev pub all_hear : Header → List Going → List Reply → List Going
all_hear header ss replies = map (λ p. hears header p.0 p.1) (zip ss replies)

-- ---- the solo steps of one rank

abbrev pub is_solo_of : ℕ → Mark → Bool
is_solo_of r (Meet k) = false
is_solo_of r (Solo q c) = q == r

abbrev pub own_step : Setting → ℕ → Counted × Going → Mark → Counted × Going
own_step s r state mark = solo_of s r state.0 (advance s.header state.1)

abbrev pub own_calls : Hints → Setting → ℕ → Counted × Going → List Mark → List DiskCall
own_calls hints s r state [] = []
own_calls hints s r state (m ∷ order) =
    elim ((advance s.header state.1).1) [ None ↦ [] | Some o ↦ solo_calls hints s r o state.0 ]
    ++ own_calls hints s r (own_step s r state m) order

-- ---- the run

abbrev pub calls_so_far : Hints → Setting → Counted × List Going → List Mark → List DiskCall
calls_so_far hints s state [] = []
calls_so_far hints s state (m ∷ order) = mark_calls hints s state m ++ calls_so_far hints s (after_mark s state m) order
