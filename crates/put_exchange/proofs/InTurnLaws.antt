-- A part whose windows are overlaid with the entries, one after another.
use Rattle.put_exchange.proofs.Words.{◌≡◌, ℕ, ◌+◌, ◌≤◌, inl, refl, sym, subst, List, [], ◌∷◌, length, Option, flat_map, IfSome, Owned, DiskCall, with_end-nil, after, with_end, BothTold, said_by, IsOneValued, store_calls, IsBetween, In, Source, cell_of, IsPast, covered_place, TurnWalk, ArePieces, put_part, cells_in, put_window, IsFilledBy, Told, turns_ahead, IsTurnWalk, HaveWindows, IsTurn, LieOnPart, AreInFront, AreServed, IsAt, at_next, served_are, served_covered, served_now, map, arith, nat_tests, common_steps}
use Rattle.put_exchange.proofs.PieceLaws.{pieces_found, served_picked}
use Rattle.put_exchange.proofs.PutLaws.{IsPutSoFar, told_begin, told_between, told_end, told_more, told_next}
use Rattle.put_exchange.proofs.ServeLaws.{calls_more}

-- the entries that may have bytes in a window fill it
pub served_filled : (source : Source) (list begun : List Owned) (room : ℕ) (t : Told) → AreServed list begun t.0 (t.0 + t.1) → ArePieces source list → IsTurn list room t
    → IsFilledBy t (cells_in source t begun)
served_filled source list begun room t s pieces turn f x l h =
    covered_place _ _ _ _ x (pieces_found _ _ (served_are _ _ _ _ _ s pieces)) l h
    (served_covered _ _ _ _ x s l h (turn.full f x l h))

pub record IsInTurn (source : Source) (from len room : ℕ) (list : List Owned) (all : List Told) (w : TurnWalk) (held now : Option (List ℕ)) (calls made : Option (List DiskCall)) : Type 0 where
  pub ready : IsTurnWalk w
  pub here : IsAt list room (turns_ahead w.windows) w.entries.now
  pub on_part : LieOnPart from len (turns_ahead w.windows)
  pub bytes : BothTold (λ old left. IsPutSoFar source list from (turns_ahead w.windows) old left) held now
  pub device : with_end made (flat_map store_calls (turns_ahead w.windows)) ≡ with_end calls (flat_map store_calls all)

pub in_turn_begin : (source : Source) (from len room : ℕ) (list : List Owned) (all : List Told) (w : TurnWalk) (held : Option (List ℕ)) (calls : Option (List DiskCall))
    → IsTurnWalk w → IsAt list room (turns_ahead w.windows) w.entries.now → turns_ahead w.windows ≡ all → LieOnPart from len all → HaveWindows from len list all
    → IfSome held (λ file. length file ≡ len) → IsInTurn source from len room list all w held held calls calls
in_turn_begin source from len room list all w held calls ready at ahead on windows told =
    grind (
      arith,
      common_steps,
      told_begin source list from len (turns_ahead w.windows) held told (subst (λ (ts : List Told). HaveWindows from len list ts) (sym ahead) windows),
    )

ahead_on : (from len : ℕ) (w v : TurnWalk) (t : Told) → LieOnPart from len (turns_ahead w.windows) → turns_ahead w.windows ≡ t ∷ turns_ahead v.windows → (from ≤ t.0) × (t.0 + t.1 ≤ from + len)
ahead_on from len w v t on e = on t (subst (λ (ts : List Told). In ts t) (sym e) (inl refl))

pub in_turn_next : (source : Source) (from len room : ℕ) (list begun : List Owned) (all : List Told) (w v : TurnWalk) (t : Told) (held mid now : Option (List ℕ)) (calls made drawn : Option (List DiskCall))
    → IfSome held (λ file. length file ≡ len) → IsOneValued (said_by (map (λ o. cell_of source o) list)) → IsInTurn source from len room list all w held mid calls made
    → turns_ahead w.windows ≡ t ∷ turns_ahead v.windows → IsTurnWalk v → AreInFront (t.0 + t.1) w.entries.now begun → IsPast (t.0 + t.1) w.entries.now v.entries.now
    → now ≡ after (put_window source from t begun) mid → drawn ≡ with_end made (store_calls t) → IsInTurn source from len room list all v held now calls drawn
in_turn_next source from len room list begun all w v t held mid now calls made drawn told one s e ready b past put device =
    let on = ahead_on from len w v t s.on_part e in
    grind (arith, nat_tests, served_now list w.entries.now begun room (turns_ahead w.windows) (turns_ahead v.windows) t s.here e b, at_next list w.entries.now v.entries.now room (turns_ahead w.windows) (turns_ahead v.windows) t s.here e past, told_next source list begun from len t (turns_ahead v.windows) held mid now told one, served_picked list begun t, calls_more t (turns_ahead v.windows) made drawn device)

-- a window that was cut off
pub in_turn_cut : (source : Source) (from len room : ℕ) (list begun : List Owned) (all : List Told) (w v : TurnWalk) (t : Told) (held mid now : Option (List ℕ)) (calls made : Option (List DiskCall))
    → IfSome held (λ file. length file ≡ len) → IsOneValued (said_by (map (λ o. cell_of source o) list)) → IsInTurn source from len room list all w held mid calls made
    → turns_ahead w.windows ≡ t ∷ turns_ahead v.windows → AreInFront (t.0 + t.1) w.entries.now begun
    → BothTold (λ old left. IsBetween old (put_window source from t begun old) left) mid now → BothTold (λ old left. IsBetween old (put_part source list from old) left) held now
in_turn_cut source from len room list begun all w v t held mid now calls made told one s e b put =
    let on = ahead_on from len w v t s.on_part e in
    grind (arith, nat_tests, served_now list w.entries.now begun room (turns_ahead w.windows) (turns_ahead v.windows) t s.here e b, told_more source list begun from len t held mid now told one, served_picked list begun t, told_between source list from (turns_ahead w.windows) held mid s.bytes)

pub in_turn_end : (source : Source) (from len room : ℕ) (list : List Owned) (all : List Told) (w : TurnWalk) (held now : Option (List ℕ)) (calls made : Option (List DiskCall))
    → IsInTurn source from len room list all w held now calls made → turns_ahead w.windows ≡ [] → (now ≡ after (put_part source list from) held) × (made ≡ with_end calls (flat_map store_calls all))
in_turn_end source from len room list all w held now calls made s none = grind (arith, nat_tests, told_end source list from held now, with_end-nil made)

pub in_turn_whole : (source : Source) (from len room : ℕ) (list : List Owned) (all : List Told) (w : TurnWalk) (held now : Option (List ℕ)) (calls made : Option (List DiskCall))
    → IsInTurn source from len room list all w held now calls made → BothTold (λ old left. IsBetween old (put_part source list from old) left) held now
in_turn_whole source from len room list all w held now calls made s = told_between source list from (turns_ahead w.windows) held now s.bytes
