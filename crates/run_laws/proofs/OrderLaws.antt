-- Longer orders: their states and device calls, and the solo steps of one rank in a row.
use Rattle.run_laws.proofs.Words.{◌≡◌, ℕ, refl, sym, List, [], ◌∷◌, ◌++◌, set, true, Some, append_assoc, set-set, fold-append, slice_get, ◌==◌, nat_lt, fold, list_all, eqb-true, and_first, and_second, Header, Hints, Script, Mark, Meet, Solo, Setting, Counted, store_records, calls_from, Going, setting_of, first_state, state_after, after_mark, solo_of, advance, closed, is_solo_of, own_step, own_calls, calls_so_far, entry_set, set_own, arith, nat_tests}
use Rattle.run_laws.proofs.StandingLaws.{solo_goes, solo_calls_go}

-- ---- states

pub states_more : (script : Script) (header : Header) (file : List ℕ) (order more : List Mark)
    → state_after script header file (order ++ more) ≡ fold (after_mark (setting_of script header)) (state_after script header file order) more
states_more script header file order more = fold-append (after_mark (setting_of script header)) (first_state header file script.calls) order more

pub state_more : (script : Script) (header : Header) (file : List ℕ) (order : List Mark) (m : Mark)
    → state_after script header file (order ++ m ∷ []) ≡ after_mark (setting_of script header) (state_after script header file order) m
state_more script header file order m = states_more script header file order (m ∷ [])

-- ---- device calls

pub calls_more : (hints : Hints) (s : Setting) (state : Counted × List Going) (order more : List Mark)
    → calls_so_far hints s state (order ++ more) ≡ calls_so_far hints s state order ++ calls_so_far hints s (fold (after_mark s) state order) more
calls_more hints s state [] more = refl
calls_more hints s state (m ∷ order) more = grind (arith, nat_tests, calls_more hints s (after_mark s state m) order more, append_assoc)

pub calls_close : (hints : Hints) (s : Setting) (state : Counted × List Going) (order : List Mark)
    → calls_from hints s state order ≡ calls_so_far hints s state order
    ++ store_records s (nat_lt (fold (after_mark s) state order).0.records (closed s (fold (after_mark s) state order)).records)
calls_close hints s state [] = refl
calls_close hints s state (m ∷ order) = grind (arith, nat_tests, calls_close hints s (after_mark s state m) order, append_assoc)

-- ---- the solo steps of one rank

pub own_solos : (s : Setting) (r : ℕ) (c : Counted) (goings : List Going) (g : Going) (more : List Mark) → slice_get goings r ≡ Some g → list_all (is_solo_of r) more ≡ true
    → fold (after_mark s) (c, goings) more ≡ ((fold (own_step s r) (c, g) more).0, set goings r (fold (own_step s r) (c, g) more).1)
own_solos s r c goings g [] e h = let f = sym (set_own goings r g e) in λ i. (c, f i)
own_solos s r c goings g (Meet k ∷ more) e h = cc
own_solos s r c goings g (Solo q n ∷ more) e h =
    let done = solo_of s r c (advance s.header g) in
    let q_is = eqb-true q r (and_first (q == r) _ h) in
    let others = own_solos s r done.0 (set goings r done.1) done.1 more (entry_set goings r g done.1 e) (and_second (q == r) _ h) in
    grind (arith, nat_tests, q_is, solo_goes s r c goings g e, others, set-set)

pub own_solo_calls : (hints : Hints) (s : Setting) (r : ℕ) (c : Counted) (goings : List Going) (g : Going) (more : List Mark) → slice_get goings r ≡ Some g
    → list_all (is_solo_of r) more ≡ true → calls_so_far hints s (c, goings) more ≡ own_calls hints s r (c, g) more
own_solo_calls hints s r c goings g [] e h = refl
own_solo_calls hints s r c goings g (Meet k ∷ more) e h = cc
own_solo_calls hints s r c goings g (Solo q n ∷ more) e h =
    let done = solo_of s r c (advance s.header g) in
    grind (arith, nat_tests, and_first, solo_calls_go, own_solo_calls hints s r done.0 (set goings r done.1) done.1 more (entry_set goings r g done.1 e), entry_set, and_second, solo_goes, calls_so_far)
