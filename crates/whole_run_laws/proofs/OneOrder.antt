-- A script whose ranks have no steps of their own has one order: all its meetings in turn.
use Rattle.list_laws.proofs.Each.{none_any}
use Rattle.whole_run_laws.proofs.Words.{◌≡◌, ℕ, zero, suc, ◌+◌, ◌<◌, refl, sym, ◌∙◌, ap, List, [], ◌∷◌, length, map, Bool, true, false, not, arith, and-false, filter, list_all, list_any, range_with_len, fails_each, fails_at, entry_below, and_first, equal_itself, no_false, or_first_false, or_second_false, in_range, each_in, Header, Call, Script, Mark, Meet, Solo, concerns, is_of_rank_below, IsLegal, kinds, marks, marks_from, is_meeting, is_lawful, serial_from, kinds_of, own_lawful, ranks_lawful, kinds_skip, kinds_take, marks_alone, marks_meet, marks_solo, all_meetings, has_independent, has_solo, is_independent, collective_kind, some_rank, nat_tests, ltb-true}

abbrev is_solo : Mark → Bool
is_solo m = not (is_meeting m)

-- n meetings from the k-th on
abbrev meets_from : ℕ → ℕ → List Mark
meets_from k n = map (λ j. Meet j) (range_with_len k n)

-- ---- the marks of one rank

marks_meet_all : (r c k : ℕ) (ind : Bool) (calls : List Call) → list_any is_solo (marks_from r c k ind calls) ≡ false
    → marks_from r c k ind calls ≡ meets_from k (length (kinds calls))
marks_meet_all r c k ind [] h = refl
marks_meet_all r c k ind (x ∷ calls) h =
    let later = λ (j : ℕ) (i : Bool). marks_meet_all r (suc c) j i calls in
    grind (arith, nat_tests, later, marks_meet, collective_kind, kinds_take x calls, marks_solo, no_false, marks_alone, kinds_skip)

-- ---- no step of its own

none_alone : (r c k : ℕ) (ind : Bool) (calls : List Call) → list_any is_independent calls ≡ false → list_any is_solo (marks_from r c k ind calls) ≡ false
none_alone r c k ind [] h = refl
none_alone r c k ind (x ∷ calls) h =
    let later = λ (j : ℕ) (i : Bool). none_alone r (suc c) j i calls (or_second_false (is_independent x) _ h) in
    grind (later, arith, nat_tests, marks_meet, not, or_first_false, and-false, marks_alone)

rank_not_alone : (script : Script) (r : ℕ) → has_independent script ≡ false → list_any is_solo (marks script.calls r) ≡ false
rank_not_alone script r h = grind (arith, nat_tests, none_alone, fails_at)

pub no_step_alone : (script : Script) → is_lawful script ≡ true → has_independent script ≡ false → has_solo script ≡ false
no_step_alone script lawful h = none_any (λ r. list_any is_solo (marks script.calls r)) (range_with_len 0 script.ranks) (λ q r e. rank_not_alone script r h)

-- ---- the marks of all ranks

rank_meets : (script : Script) (r : ℕ) → has_solo script ≡ false → r < script.ranks → list_any is_solo (marks script.calls r) ≡ false
rank_meets script r h l =
    each_in (λ q. list_any is_solo (marks script.calls q) ≡ false) (range_with_len 0 script.ranks) r
    (fails_each (λ q. list_any is_solo (marks script.calls q)) (range_with_len 0 script.ranks) h) (in_range 0 script.ranks r (omega arith) (omega arith))

all_marks : (script : Script) (r : ℕ) → is_lawful script ≡ true → has_solo script ≡ false → r < script.ranks → marks script.calls r ≡ all_meetings script
all_marks script r lawful h l =
    let e = (ranks_lawful script lawful).one_each in
    let own = entry_below script.calls r (omega arith) in
    grind (arith, nat_tests, marks_meet_all r 0 0 false own.0, rank_meets script r h l, own_lawful script r own.0 lawful own.1, meets_from)

-- ---- the order

meetings_concern : (r k n : ℕ) → filter (concerns r) (meets_from k n) ≡ meets_from k n
meetings_concern r k zero = refl
meetings_concern r k (suc n) = ap (λ (ms : List Mark). Meet k ∷ ms) (meetings_concern r (k + 1) n)

meetings_known : (ranks k n : ℕ) → list_all (is_of_rank_below ranks) (meets_from k n) ≡ true
meetings_known ranks k zero = refl
meetings_known ranks k (suc n) = meetings_known ranks (k + 1) n

pub meetings_legal : (script : Script) → is_lawful script ≡ true → has_solo script ≡ false → IsLegal script (all_meetings script)
meetings_legal script lawful h = record {
  known_ranks = meetings_known script.ranks 0 (length (kinds_of script));
  each_rank = λ r l. meetings_concern r 0 (length (kinds_of script)) ∙ sym (all_marks script r lawful h l);
}

-- each mark of a legal order is a meeting, so each concerns the first rank
all_concern : (ranks : ℕ) (order : List Mark) → list_all (is_of_rank_below ranks) order ≡ true
    → ((r : ℕ) → r < ranks → list_any is_solo (filter (concerns r) order) ≡ false) → filter (concerns 0) order ≡ order
all_concern ranks [] known f = refl
all_concern ranks (Meet k ∷ order) known f = grind (arith, nat_tests, all_concern ranks order known)
all_concern ranks (Solo q n ∷ order) known f = grind (arith, nat_tests, equal_itself q, ltb-true, and_first, no_false)

meetings_not_alone : (k n : ℕ) → list_any is_solo (meets_from k n) ≡ false
meetings_not_alone k zero = refl
meetings_not_alone k (suc n) = meetings_not_alone (k + 1) n

pub no_other : (script : Script) (order : List Mark) → is_lawful script ≡ true → has_solo script ≡ false → IsLegal script order → order ≡ all_meetings script
no_other script order lawful h legal =
    sym (all_concern script.ranks order legal.known_ranks (λ r l.
    grind (arith, nat_tests, legal.each_rank r l, all_marks script r lawful h l, meetings_not_alone 0 (length (kinds_of script)))))
    ∙ legal.each_rank 0 (some_rank script lawful) ∙ all_marks script 0 lawful h (some_rank script lawful)

pub one_end : (script : Script) (header : Header) (file : List ℕ) (a b : List Mark) → is_lawful script ≡ true → has_solo script ≡ false
    → IsLegal script a → IsLegal script b → serial_from script header file a ≡ serial_from script header file b
one_end script header file a b lawful h k l = grind (arith, nat_tests, no_other script a lawful h k, no_other script b lawful h l)
