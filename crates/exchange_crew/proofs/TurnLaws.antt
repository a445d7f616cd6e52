-- A walk over windows and entries: each entry with a byte in a window is among those that the walk gives with it.
use Rattle.exchange_crew.proofs.Words.{◌≡◌, ℕ, ◌+◌, ◌^◌, ◌<◌, ◌≤◌, inl, refl, sym, subst, List, [], ◌∷◌, ◌++◌, append_assoc, arith, Extent, Owned, In, Source, extents, EndBelow, IsByPlace, in_left, in_either, IsCovered, AreFilled, BeginBefore, IsPast, past_extents, past_in, past_kept, past_later, past_sorted, past_twice, AreInFront, AreServed, IsAt, ArePieces, Told, AreTurns, IsTurn, LieOnPart, in_extents, nat_tests, map_in}

pub turn_end : (list : List Owned) (room : ℕ) (t : Told) → EndBelow (2 ^ 62) (extents list) → IsTurn list room t → t.0 + t.1 < 2 ^ 62
turn_end list room t ends h = grind (arith, nat_tests, in_extents list h.last.by h.last.inside)

pub turn_in : (list : List Owned) (room : ℕ) (ts : List Told) (t : Told) → AreTurns list room ts → In ts t → IsTurn list room t
turn_in list room [] t h m = absurd m
turn_in list room (u ∷ ts) t h xs = grind (arith, nat_tests, turn_in list room ts t h.2)

-- ---- the entries

pub at_begin : (list left : List Owned) (room place : ℕ) (ahead : List Told) → IsPast place list left → ((t : Told) → In ahead t → place ≤ t.0) → AreTurns list room ahead
    → IsAt list room ahead left
at_begin list left room place ahead p low turns = record { past = λ t m. past_later place t.0 list left (low t m) p; turns = turns }

pub at_next : (list left later : List Owned) (room : ℕ) (ahead rest : List Told) (t : Told) → IsAt list room ahead left → ahead ≡ t ∷ rest → IsPast (t.0 + t.1) left later
    → IsAt list room rest later
at_next list left later room ahead rest t a e p = grind (arith, nat_tests, past_later, past_twice)

pub begun_front : (place : ℕ) (left begun : List Owned) → BeginBefore place left begun → AreInFront place left begun
begun_front place left begun b = record { rest = b.rest; joined = b.joined; later = b.later }

-- those carried are in front of all others
pub front_carried : (place : ℕ) (carried ahead begun : List Owned) → BeginBefore place ahead begun → AreInFront place (carried ++ ahead) (carried ++ begun)
front_carried place carried ahead begun b = grind (arith, nat_tests, append_assoc carried begun b.rest)

pub served_now : (list left begun : List Owned) (room : ℕ) (ahead rest : List Told) (t : Told) → IsAt list room ahead left → ahead ≡ t ∷ rest → AreInFront (t.0 + t.1) left begun
    → AreServed list begun t.0 (t.0 + t.1)
served_now list left begun room ahead rest t a e f = record { left = left; past = a.past t (subst (λ (ts : List Told). In ts t) (sym e) (inl refl)); front = f }

turn_now : (list left : List Owned) (room : ℕ) (ahead rest : List Told) (t : Told) → IsAt list room ahead left → ahead ≡ t ∷ rest → IsTurn list room t
turn_now list left room ahead rest t a e = (subst (λ (ts : List Told). AreTurns list room ts) e a.turns).0

-- what is left where a window is next is in order, as the list is
pub left_sorted : (list left : List Owned) (room : ℕ) (ahead rest : List Told) (t : Told) → IsByPlace (extents list) → IsAt list room ahead left → ahead ≡ t ∷ rest → IsByPlace (extents left)
left_sorted list left room ahead rest t sorted a e = past_sorted t.0 list left sorted (a.past t (subst (λ (ts : List Told). In ts t) (sym e) (inl refl)))

pub left_ends : (list left : List Owned) (room : ℕ) (ahead rest : List Told) (t : Told) → EndBelow (2 ^ 62) (extents list) → IsAt list room ahead left → ahead ≡ t ∷ rest
    → EndBelow (2 ^ 62) (extents left)
left_ends list left room ahead rest t ends a e x m = ends x (past_extents t.0 list left x (a.past t (subst (λ (ts : List Told). In ts t) (sym e) (inl refl))) m)

pub left_filled : (list left : List Owned) (room : ℕ) (ahead rest : List Told) (t : Told) → AreFilled list → IsAt list room ahead left → ahead ≡ t ∷ rest → AreFilled left
left_filled list left room ahead rest t filled a e o m = filled o (past_in t.0 list left o (a.past t (subst (λ (ts : List Told). In ts t) (sym e) (inl refl))) m)

pub turn_limit : (list left : List Owned) (room : ℕ) (ahead rest : List Told) (t : Told) → EndBelow (2 ^ 62) (extents list) → IsAt list room ahead left → ahead ≡ t ∷ rest → t.0 + t.1 < 2 ^ 62
turn_limit list left room ahead rest t ends a e = turn_end list room t ends (turn_now list left room ahead rest t a e)

pub served_in : (list begun : List Owned) (lo hi : ℕ) (o : Owned) → AreServed list begun lo hi → In begun o → In list o
served_in list begun lo hi o s m = grind (arith, nat_tests, in_left begun s.front.rest o m, past_in)

pub in_served : (list begun : List Owned) (lo hi : ℕ) (o : Owned) → AreServed list begun lo hi → In list o → o.extent.at < hi → lo < o.extent.at + o.extent.len → In begun o
in_served list begun lo hi o s m b k = grind (arith, nat_tests, past_kept lo list s.left o s.past m k, in_either)

pub served_covered : (list begun : List Owned) (lo hi x : ℕ) → AreServed list begun lo hi → lo ≤ x → x < hi → IsCovered list x → IsCovered begun x
served_covered list begun lo hi x s l h c = grind (arith, nat_tests, in_served list begun lo hi c.by s c.inside (omega arith) (omega arith))

pub served_are : (source : Source) (list begun : List Owned) (lo hi : ℕ) → AreServed list begun lo hi → ArePieces source list → ArePieces source begun
served_are source list begun lo hi s h o m = h o (served_in list begun lo hi o s m)

pub served_ends : (list begun : List Owned) (lo hi : ℕ) → AreServed list begun lo hi → EndBelow (2 ^ 62) (extents list) → EndBelow (2 ^ 62) (extents begun)
served_ends list begun lo hi s h e m =
    let r = map_in (λ (o : Owned). o.extent) begun e m in
    subst (λ (d : Extent). d.at + d.len < 2 ^ 62) r.2 (h r.0.extent (in_extents list r.0 (served_in list begun lo hi r.0 s r.1)))

-- the window that a walk gives next, with its entries
pub record IsDue (list begun : List Owned) (room from len : ℕ) (t : Told) : Type 0 where
  pub turn : IsTurn list room t
  pub low : from ≤ t.0
  pub high : t.0 + t.1 ≤ from + len
  pub served : AreServed list begun t.0 (t.0 + t.1)
  pub ends : EndBelow (2 ^ 62) (extents begun)
  pub limit : t.0 + t.1 < 2 ^ 62

pub due_now : (list left begun : List Owned) (room from len : ℕ) (ahead rest : List Told) (t : Told) → EndBelow (2 ^ 62) (extents list) → IsAt list room ahead left → LieOnPart from len ahead
    → ahead ≡ t ∷ rest → AreInFront (t.0 + t.1) left begun → IsDue list begun room from len t
due_now list left begun room from len ahead rest t ends a on e f = grind (
  arith,
  nat_tests,
  served_now list left begun room ahead rest t a e f,
  turn_now list left room ahead rest t a e,
  served_ends list begun t.0 (t.0 + t.1) (served_now list left begun room ahead rest t a e f) ends,
  turn_end list room t ends (turn_now list left room ahead rest t a e),
)
