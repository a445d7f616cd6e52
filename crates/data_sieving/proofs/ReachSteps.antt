-- What holds of all entries holds of those of a window.
use Rattle.data_sieving.proofs.Words.{ℕ, ◌+◌, ◌^◌, ◌<◌, ◌≤◌, sym, subst, List, [], ◌∷◌, ◌++◌, arith, Owned, Window, In, Source, AreFound, extents, EndBelow, in_left, AreFilled, LieOn, IsPast, BeginBefore, AreLeft, IsNext, past_in, past_found, extents_left, in_extents, nat_tests}

pub served_in : (place stop : ℕ) (list left served : List Owned) (o : Owned) → IsPast place list left → BeginBefore stop left served → In served o → In list o
served_in place stop list left served o p b m = grind (arith, nat_tests, past_in, in_left)

-- ---- their bytes

pub found_left : (source : Source) (a b : List Owned) → AreFound source (a ++ b) → AreFound source a
found_left source [] b h = tt
found_left source (o ∷ a) b h = (h.0, found_left source a b h.1)

pub found_right : (source : Source) (a b : List Owned) → AreFound source (a ++ b) → AreFound source b
found_right source [] b h = h
found_right source (o ∷ a) b h = found_right source a b h.1

module _ {left served : List Owned} {place size stop : ℕ} (l : AreLeft left place size) (b : BeginBefore stop left served) where
  pub served_ends : EndBelow (2 ^ 62) (extents served)
  served_ends e m = l.ends e (subst (λ (os : List Owned). In (extents os) e) (sym b.joined) (extents_left served b.rest e m))

  pub served_filled : AreFilled served
  served_filled o m = l.filled o (subst (λ (os : List Owned). In os o) (sym b.joined) (in_left served b.rest o m))

-- ---- the hull

module _ {left : List Owned} {place size : ℕ} {w : Window} {served : List Owned} {stop : ℕ} (n : IsNext left place size w served stop) where
  pub served_found : (source : Source) (list : List Owned) → AreFound source list → IsPast place list left → AreFound source served
  served_found source list f p = grind (arith, nat_tests, n.front, found_left, past_found)

  pub hull_low : (list : List Owned) (from len : ℕ) → LieOn from len list → IsPast place list left → from ≤ w.hull.at
  hull_low list from len on p = grind (arith, nat_tests, past_in)

  pub hull_high : (list : List Owned) (from len : ℕ) → LieOn from len list → IsPast place list left → w.hull.at + w.hull.len ≤ from + len
  hull_high list from len on p = grind (arith, nat_tests, served_in place stop list left served n.hull.last.by p n.front n.hull.last.inside)

  pub hull_end : AreLeft left place size → w.hull.at + w.hull.len < 2 ^ 62
  hull_end l =
      let last = n.hull.last in
      grind (arith, nat_tests, served_ends l n.front last.by.extent (in_extents served last.by last.inside), in_extents served last.by last.inside, last.high, n.hull.some)
