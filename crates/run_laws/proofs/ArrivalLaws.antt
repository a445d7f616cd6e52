-- A run of ranks at their next offers is that of ranks which wait where they heard their last reply.
use Rattle.run_laws.proofs.Words.{◌≡◌, ℕ, refl, List, [], ◌∷◌, ◌++◌, map, set, Option, Some, None, fold, map_map, Header, Call, Hints, Script, Mark, Offer, run_calls, Setting, Counted, Going, advance, solo_of, after_mark, first_state, setting_of, closed, serial_from, calls_so_far, Arrived, Stand, solo_to, step_to, calls_over, ended_from, all_calls_over, first_stand, map-set, arith, nat_tests, append_assoc, slice_get-map}
use Rattle.run_laws.proofs.OrderLaws.{calls_close}
use Rattle.run_laws.proofs.StandingLaws.{calls_at}

-- each rank goes up to its next offer
abbrev pub gone_up : Setting → Counted × List Going → Stand
gone_up s state = (state.0, map (advance s.header) state.1)

-- ---- one step

abbrev pub stand_at : Setting → ℕ → Counted → List Arrived → Option Arrived → Stand
stand_at s r c ranks m = elim m [ None ↦ (c, ranks) | Some a ↦ solo_to s r c ranks a ]

abbrev pub state_at : Setting → ℕ → Counted → List Going → Option Going → Counted × List Going
state_at s r c goings m = elim m [
  | None ↦ (c, goings)
  | Some g ↦ ((solo_of s r c (advance s.header g)).0, set goings r (solo_of s r c (advance s.header g)).1)
]

pub arrival_step : (s : Setting) (state : Counted × List Going) (m : Mark) → step_to s (gone_up s state) m ≡ gone_up s (after_mark s state m)
arrival_step s state m = grind (arith, nat_tests, map_map, slice_get-map, map-set)

abbrev pub offer_of : Option Arrived → Option Offer
offer_of m = elim m [ None ↦ None | Some a ↦ a.1 ]

-- ---- a run

pub arrival_steps : (s : Setting) (state : Counted × List Going) (order : List Mark)
    → fold (step_to s) (gone_up s state) order ≡ gone_up s (fold (after_mark s) state order)
arrival_steps s state [] = refl
arrival_steps s state (m ∷ order) = grind (arith, nat_tests, arrival_steps s (after_mark s state m) order, arrival_step)

pub arrival_calls : (hints : Hints) (s : Setting) (state : Counted × List Going) (order : List Mark)
    → calls_over hints s (gone_up s state) order ≡ calls_so_far hints s state order
arrival_calls hints s state [] = refl
arrival_calls hints s state (m ∷ order) = grind (arith, nat_tests, arrival_calls hints s (after_mark s state m) order, calls_at, slice_get-map, arrival_step)

pub calls_split : (hints : Hints) (s : Setting) (stand : Stand) (marks more : List Mark)
    → calls_over hints s stand (marks ++ more) ≡ calls_over hints s stand marks ++ calls_over hints s (fold (step_to s) stand marks) more
calls_split hints s stand [] more = refl
calls_split hints s stand (m ∷ marks) more = grind (arith, nat_tests, calls_split hints s (step_to s stand m) marks more, append_assoc)

arrival_end : (s : Setting) (state : Counted × List Going) (order : List Mark)
    → ended_from s (gone_up s state) order ≡ closed s (fold (after_mark s) state order)
arrival_end s state order = grind (arith, nat_tests, arrival_steps, map_map)

pub first_up : (header : Header) (s : Setting) (file : List ℕ) (calls : List (List Call)) → s.header ≡ header
    → first_stand header file calls ≡ gone_up s (first_state header file calls)
first_up header s file calls e = grind (arith, nat_tests, map_map)

pub serial_of_arrivals : (script : Script) (header : Header) (file : List ℕ) (order : List Mark)
    → serial_from script header file order ≡ ended_from (setting_of script header) (first_stand header file script.calls) order
serial_of_arrivals script header file order =
    grind (arith, nat_tests, first_up header (setting_of script header) file script.calls, arrival_end (setting_of script header) (first_state header file script.calls) order)

pub calls_of_arrivals : (script : Script) (header : Header) (file : List ℕ) (order : List Mark)
    → run_calls script header file order ≡ all_calls_over script.hints (setting_of script header) (first_stand header file script.calls) order
calls_of_arrivals script header file order =
    let s = setting_of script header in
    grind (arith, nat_tests, first_up header s file script.calls, arrival_calls script.hints s (first_state header file script.calls) order, arrival_steps s (first_state header file script.calls) order, arrival_end s (first_state header file script.calls) order, calls_close script.hints s (first_state header file script.calls) order, all_calls_over)
