-- A run whose ranks have gone up to their next offers: each step is done by ranks that stand there. (own)
--     Stand                     file and count, and the ranks at their next offers
--     step_to s stand mark      the stand after a step
--     step_calls, calls_over    the device calls of a step, and of steps
--     ended_from s stand marks  the end of a run that goes on by these steps
--     all_calls_over ..         the device calls of these steps, and of the close
--     first_stand ..            before the first step
use Rattle.std.specs.Prelude.{ℕ, List, [], ◌∷◌, ◌++◌, map, fold, zip, set, Option, Some, None, slice_get, nat_lt}
use Rattle.nc_base.specs.declared.header.Header.{Header}
use Rattle.nc_base.specs.declared.request.Call.{Call}
use Rattle.nc_base.specs.declared.script.Hints.{Hints}
use Rattle.nc_base.specs.declared.step.DiskCall.{DiskCall}
use Rattle.nc_base.specs.declared.step.Mark.{Mark}
use Rattle.nc_base.specs.declared.step.Mark.TheVariants.{Meet, Solo}
use Rattle.nc_base.specs.declared.step.Offer.{Offer}
use Rattle.nc_base.specs.declared.step.Reply.{Reply}
use Rattle.serial_spec.specs.DeviceCalls.{meeting_calls, solo_calls, store_records}
use Rattle.serial_spec.specs.FileStep.{Setting, Counted, meeting}
use Rattle.serial_spec.specs.SerialEnd.{Going, End, advance, first_going, hears, offers_of, solo_of, close_by}

-- a rank that has gone up to its next offer, if there is one
abbrev pub Arrived : Type 0
Arrived = Going × Option Offer

abbrev pub Stand : Type 0
Stand = Counted × List Arrived

-- a rank that hears its reply, and goes up to its next offer
abbrev pub heard : Header → Arrived × Reply → Arrived
heard header p = advance header (hears header p.0.0 p.1)

abbrev pub solo_to : Setting → ℕ → Counted → List Arrived → Arrived → Stand
solo_to s r c ranks a = let done = solo_of s r c a in (done.0, set ranks r (advance s.header done.1))

abbrev pub step_to : Setting → Stand → Mark → Stand
step_to s (c, ranks) (Meet k) =
    let stepped = meeting s (offers_of ranks) c in (stepped.0, map (heard s.header) (zip ranks stepped.1))
step_to s (c, ranks) (Solo r n) = elim (slice_get ranks r) [ None ↦ (c, ranks) | Some a ↦ solo_to s r c ranks a ]

abbrev pub offer_at : List Arrived → ℕ → Option Offer
offer_at ranks r = elim (slice_get ranks r) [ None ↦ None | Some a ↦ a.1 ]

abbrev pub step_calls : Hints → Setting → Stand → Mark → List DiskCall
step_calls hints s (c, ranks) (Meet k) = meeting_calls hints s (offers_of ranks) c
step_calls hints s (c, ranks) (Solo r n) = elim (offer_at ranks r) [ None ↦ [] | Some o ↦ solo_calls hints s r o c ]

abbrev pub calls_over : Hints → Setting → Stand → List Mark → List DiskCall
calls_over hints s stand [] = []
calls_over hints s stand (m ∷ marks) = step_calls hints s stand m ++ calls_over hints s (step_to s stand m) marks

abbrev pub ended_from : Setting → Stand → List Mark → End
ended_from s stand marks = let last = fold (step_to s) stand marks in close_by s last.0 (map (λ a. a.0) last.1)

abbrev pub all_calls_over : Hints → Setting → Stand → List Mark → List DiskCall
all_calls_over hints s stand marks =
    calls_over hints s stand marks
    ++ store_records s (nat_lt (fold (step_to s) stand marks).0.records (ended_from s stand marks).records)

abbrev pub first_stand : Header → List ℕ → List (List Call) → Stand
first_stand header file calls =
    (record { file = file; records = header.records }, map (λ own. advance header (first_going header own)) calls)
