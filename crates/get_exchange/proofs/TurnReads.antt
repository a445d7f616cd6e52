-- Hulls of a part that are read and collected one after another: what was done and what is left to be done are the whole.
use Rattle.get_exchange.proofs.Words.{◌≡◌, ℕ, ◌+◌, ◌-◌, inr, sym, ◌∙◌, ap, subst, List, [], ◌∷◌, ◌++◌, Option, append-nil, IfSome, Owned, DiskCall, with_end-nil, with_end-with_end, with_end, read, IsWalk, load_calls, In, in_either, entries_left, IsPast, AreAsLong, FitTable, HaveOnePlaces, AreInFront, IsAt, LieOnPart, told_in, HasCollectedLog, HasReadTurn, HasReadTurns, Log, Told, turns_ahead, ReadWalk, at_next, served_now, arith, nat_tests, ◌^◌, EndBelow, extents, Window, WindowWalk, told_window, IsDue, due_now, flat_map, common_steps}
use Rattle.get_exchange.proofs.CollectLaws.{fit_as_long}
use Rattle.get_exchange.proofs.ReadLaws.{hull_collected, log_joined, log_one}

pub record IsReading (list : List Owned) (room from len : ℕ) (all : List Told) (w : ReadWalk) (held : Option (List ℕ)) (old now : List (List (List ℕ)))
    (calls made : Option (List DiskCall)) : Type 0 where
  pub ready : IsWalk w.windows
  pub here : IsAt list room (turns_ahead w.windows) (entries_left w.entries)
  pub on_part : LieOnPart from len (turns_ahead w.windows)
  pub log : Log
  pub turns : told_in log ++ turns_ahead w.windows ≡ all
  pub told : IfSome held (λ file. (e : Told × List ℕ) → In log e → e.1 ≡ read file (e.0.0 - from) e.0.1)
  pub collected : HasCollectedLog list log old now
  pub long : AreAsLong old now
  pub device : with_end made (flat_map load_calls (turns_ahead w.windows)) ≡ with_end calls (flat_map load_calls all)

pub reading_begin : (list : List Owned) (room from len : ℕ) (all : List Told) (w : ReadWalk) (held : Option (List ℕ)) (table : List (List (List ℕ))) (calls : Option (List DiskCall))
    → IsWalk w.windows → IsAt list room (turns_ahead w.windows) (entries_left w.entries) → turns_ahead w.windows ≡ all → LieOnPart from len all → IsReading list room from len all w held table table calls calls
reading_begin list room from len all w held table calls ready at ahead on = grind (arith, nat_tests, flat_map)

-- the window that is read next, with its entries
pub reading_due : {list : List Owned} {room from len : ℕ} {all : List Told} {w : ReadWalk} {held : Option (List ℕ)} {old now : List (List (List ℕ))} {calls made : Option (List DiskCall)}
    (begun : List Owned) (rest : WindowWalk) (window turned : Window) → EndBelow (2 ^ 62) (extents list) → IsReading list room from len all w held old now calls made
    → turns_ahead w.windows ≡ told_window window ∷ turns_ahead rest → turned ≡ window → AreInFront (turned.hull.at + turned.hull.len) (entries_left w.entries) begun
    → IsDue list begun room from len (told_window turned)
reading_due {list} {room = room} {from = from} {len = len} {w = w} begun rest window turned ends s ahead same front =
    due_now list (entries_left w.entries) begun room from len (turns_ahead w.windows) (turns_ahead rest) (told_window turned) ends s.here s.on_part
    (ahead ∙ ap (λ (u : Window). told_window u ∷ turns_ahead rest) (sym same)) front

told_more : (held : Option (List ℕ)) (from : ℕ) (log : Log) (t : Told) (bytes : List ℕ)
    → IfSome held (λ file. (e : Told × List ℕ) → In log e → e.1 ≡ read file (e.0.0 - from) e.0.1) → IfSome held (λ file. bytes ≡ read file (t.0 - from) t.1)
    → IfSome held (λ file. (e : Told × List ℕ) → In (log ++ (t, bytes) ∷ []) e → e.1 ≡ read file (e.0.0 - from) e.0.1)
told_more held from log t bytes h g = grind (arith, nat_tests, in_either)

-- one window more
pub reading_next : (list begun : List Owned) (room from len here : ℕ) (all : List Told) (w v : ReadWalk) (t : Told) (held kept : Option (List ℕ)) (old mid now : List (List (List ℕ)))
    (calls made drawn : Option (List DiskCall)) → HaveOnePlaces list → FitTable old list → IsReading list room from len all w held old mid calls made
    → turns_ahead w.windows ≡ t ∷ turns_ahead v.windows → IsWalk v.windows → AreInFront (t.0 + t.1) (entries_left w.entries) begun → IsPast (t.0 + t.1) (entries_left w.entries) (entries_left v.entries)
    → here ≡ from → kept ≡ held → HasReadTurn begun here kept t mid now → AreAsLong mid now → drawn ≡ with_end made (load_calls t)
    → IsReading list room from len all v held old now calls drawn
reading_next list begun room from len here all w v t held kept old mid now calls made drawn once fit s e ready b p same stays r long device = record {
  ready = ready;
  here = at_next list (entries_left w.entries) (entries_left v.entries) room (turns_ahead w.windows) (turns_ahead v.windows) t s.here e p;
  on_part = λ u m. s.on_part u (subst (λ (ts : List Told). In ts u) (sym e) (inr m));
  log = s.log ++ (t, r.bytes) ∷ [];
  turns = grind (arith, common_steps);
  told = grind (arith, nat_tests, told_more, read, t.0, t.1, r.told);
  collected = grind (arith, nat_tests, log_joined list s.log ((t, r.bytes) ∷ []) old mid now s.collected, log_one list t r.bytes mid now, hull_collected t.0 t.1 r.bytes list begun mid now r.long once (fit_as_long old mid list s.long fit), fit_as_long old mid list s.long fit, served_now list (entries_left w.entries) begun room (turns_ahead w.windows) (turns_ahead v.windows) t s.here e);
  long = long ∙ s.long;
  device = grind (arith, nat_tests, with_end-with_end, s.device, with_end, flat_map, turns_ahead);
}

pub reading_end : (list : List Owned) (room from len : ℕ) (all : List Told) (w : ReadWalk) (held : Option (List ℕ)) (old now : List (List (List ℕ))) (calls made : Option (List DiskCall))
    → IsReading list room from len all w held old now calls made → turns_ahead w.windows ≡ [] → HasReadTurns list all from held old now × (made ≡ with_end calls (flat_map load_calls all))
reading_end list room from len all w held old now calls made s none = grind (arith, nat_tests, append-nil (told_in s.log), with_end-nil made, flat_map)
