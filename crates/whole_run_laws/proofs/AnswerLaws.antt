-- What a rank was told in the step of a call stands in its answer to that call, at the number of the call.
use Rattle.whole_run_laws.proofs.Words.{◌≡◌, ℕ, ◌+◌, List, [], ◌∷◌, ◌++◌, length, map, Option, Some, arith, true, option_map, entry_set, fold, slice_get, get_right, Answer, Pair, Header, Call, Script, Mark, Meet, Solo, Open, Reply, Counted, Setting, solo, IsLegal, is_lawful, Rank, advance, after_mark, after_meeting, after_solo, go, Going, hear_open, hears, offers_of, serial_from, setting_of, state_after, states_more, IsToldAt, meeting_call, told_at, nat_tests, puts_asked, puts_met, rank_offer, told}
use Rattle.join_laws.proofs.WholeLaws.{get_map as mapped_from}
use Rattle.whole_run_laws.proofs.CallNumbers.{number_met}
use Rattle.whole_run_laws.proofs.Courses.{AreAlong, along_at, goes_number, heard_by, mark_along, meets, meets_number, moved, offered_alone, steps}
use Rattle.whole_run_laws.proofs.ToldLaws.{reply_told}

-- ---- what was answered stays

abbrev IsTold : List Answer → ℕ → Option Pair → Type 0
IsTold answers n pair = option_map (λ a. a.pair) (slice_get answers n) ≡ Some pair

told_more : (answers : List Answer) (a : Answer) (n : ℕ) (pair : Option Pair) → IsTold answers n pair → IsTold (answers ++ a ∷ []) n pair
told_more [] a n pair t = cc
told_more (x ∷ answers) a n pair t = grind (arith, nat_tests, told_more answers a)

go_told : (header : Header) (n : ℕ) (pair : Option Pair) (calls : List Call) (r : Rank) (answers : List Answer) → IsTold answers n pair
    → IsTold (go header r answers calls).0.answers n pair
go_told header n pair [] r answers t = t
go_told header n pair (c ∷ calls) r answers t = grind (arith, nat_tests, go_told header n pair calls, told_more)

module _ (script : Script) (s : Setting) (r n : ℕ) (pair : Option Pair) where
  abbrev IsKept : List Going → Type 0
  IsKept goings = (g : Going) → slice_get goings r ≡ Some g → IsTold g.answers n pair

  mark_told : (m : Mark) (rest : List Mark) (state : Counted × List Going) → AreAlong script (m ∷ rest) state.1 → IsKept state.1 → IsKept (after_mark s state m).1
  mark_told m rest (c, goings) a t g e =
      let w = moved script s r m rest c goings g a e in
      grind (arith, nat_tests, told_more (advance s.header w.before).0.answers, go_told s.header n pair w.before.calls w.before.rank w.before.answers (t w.before w.was), w.is, IsTold)

  order_told : (order : List Mark) (state : Counted × List Going) → AreAlong script order state.1 → IsKept state.1 → IsKept (fold (after_mark s) state order).1
  order_told [] state a t = t
  order_told (m ∷ order) state a t = order_told order (after_mark s state m) (mark_along script s m order state a) (mark_told m order state a t)

-- what is told when a mark is done stands at its number in the answers at the end
mark_answer : (script : Script) (header : Header) (file : List ℕ) (before later : List Mark) (m : Mark) (r n : ℕ) (pair : Option Pair) (answers : List Answer)
    → AreAlong script (m ∷ later) (state_after script header file before).1
    → ((g : Going) → slice_get (after_mark (setting_of script header) (state_after script header file before) m).1 r ≡ Some g → IsTold g.answers n pair)
    → slice_get (serial_from script header file (before ++ m ∷ later)).answers r ≡ Some answers → IsToldAt answers n pair
mark_answer script header file before later m r n pair answers a t e =
    let s = setting_of script header in
    let state = state_after script header file before in
    let whole = state_after script header file (before ++ m ∷ later) in
    let end = mapped_from (λ (g : Going). g.answers) (map (λ g. (advance header g).0) whole.1) r answers e in
    let last = mapped_from (λ (g : Going). (advance header g).0) whole.1 r end.0 end.1.0 in
    grind (arith, nat_tests, order_told script s r n pair later (after_mark s state m) (mark_along script s m later state a) t last.0, mark_along script s m later state a, states_more script header file before (m ∷ later), go_told header n pair last.0.calls last.0.rank last.0.answers, last.1.0, end.1.1, last.1.1, IsTold)

-- ---- the answer

-- a rank that hears a reply is told its pair
hears_told : (header : Header) (g : Going) (y : Reply) (o : Open) (n : ℕ) (pair : Option Pair) → g.rank.«open» ≡ Some o → length g.answers ≡ n → y.pair ≡ pair
    → IsTold (hears header g y).answers n pair
hears_told header g y o n pair e f h = grind (arith, nat_tests, get_right g.answers ((hear_open header g.rank y g.rank.«open»).1 ∷ []) 0 n (omega arith))

met_last : {script : Script} {k : ℕ} {rest : List Mark} {goings : List Going} (s : Setting) (c : Counted) (r : ℕ) (own : List Call) (g : Going)
    → AreAlong script (Meet k ∷ rest) goings → slice_get script.calls r ≡ Some own → slice_get (after_meeting s (c, goings)).1 r ≡ Some g
    → IsTold g.answers (meeting_call k own) (told s (puts_met (offers_of (map (advance s.header) goings))))
met_last {script} {k} {rest} {goings} s c r own g a f e =
    let h = heard_by s c a r g e in
    let at = meets s.header a r h.before h.was in
    let number = meets_number s.header a r h.before h.was in
    let none : a.met + 0 ≡ k = omega arith in
    grind (arith, nat_tests, told s (puts_met (offers_of (map (advance s.header) goings))), hears_told s.header (advance s.header h.before).0 h.reply at.asks.open_with, number_met s.header h.before at.kind at.asks.offer at.asks.is_offer at.of_kind, reply_told s (offers_of (map (advance s.header) goings)) c r h.reply h.is_reply, h.is, at.asks.is_open, a.numbered, h.was, IsTold, meeting_call, puts_met)

solo_last : {script : Script} {r n : ℕ} {rest : List Mark} {goings : List Going} (s : Setting) (c : Counted) (g : Going)
    → AreAlong script (Solo r n ∷ rest) goings → slice_get (after_solo s r c goings).1 r ≡ Some g → IsTold g.answers n (told s (puts_asked r (rank_offer s goings r)))
solo_last {script} {r} {n} {rest} {goings} s c g a e =
    let st = steps s c a in
    grind (arith, nat_tests, entry_set goings r st.before (hears s.header (advance s.header st.before).0 ((solo s r st.at.asks.offer c).1)), hears_told s.header (advance s.header st.before).0 ((solo s r st.at.asks.offer c).1) st.at.asks.open_with n, goes_number s.header a st.before st.was, told s, offered_alone st, st.state, st.at.asks.is_open)

pub meeting_answer : (script : Script) (header : Header) (file : List ℕ) (before later : List Mark) (k r : ℕ) (own : List Call) (answers : List Answer)
    → is_lawful script ≡ true → IsLegal script (before ++ Meet k ∷ later) → slice_get script.calls r ≡ Some own
    → slice_get (serial_from script header file (before ++ Meet k ∷ later)).answers r ≡ Some answers
    → IsToldAt answers (meeting_call k own) (told_at script header file before (Meet k))
meeting_answer script header file before later k r own answers lawful legal f =
    let a = along_at script header file before (Meet k ∷ later) lawful legal in
    mark_answer script header file before later (Meet k) r (meeting_call k own) _ answers a (λ g e. met_last (setting_of script header) _ r own g a f e)

pub solo_answer : (script : Script) (header : Header) (file : List ℕ) (before later : List Mark) (r c : ℕ) (answers : List Answer)
    → is_lawful script ≡ true → IsLegal script (before ++ Solo r c ∷ later)
    → slice_get (serial_from script header file (before ++ Solo r c ∷ later)).answers r ≡ Some answers
    → IsToldAt answers c (told_at script header file before (Solo r c))
solo_answer script header file before later r c answers lawful legal =
    let a = along_at script header file before (Solo r c ∷ later) lawful legal in
    mark_answer script header file before later (Solo r c) r c _ answers a (λ g e. solo_last (setting_of script header) _ g a e)
