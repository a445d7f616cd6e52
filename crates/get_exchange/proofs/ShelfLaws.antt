-- The next window of a part, whose hull is to be taken, and what is left behind it.
use Rattle.get_exchange.proofs.Words.{◌≡◌, ℕ, ◌<◌, refl, sym, ap, List, [], ◌∷◌, length, Option, Some, None, arith, IfSome, IfNone, Owned, IsWalk, Window, WindowWalk, told_window, entries_left, IsAt, turns_due_of, IsShelfOf, Told, turns_ahead, ReadWalk, nat_tests, subst, IsNextUp, IsShelfIn, Shelf, round_of}

-- the window that is next on a shelf
pub next_up : (list : List Owned) (shelf : Shelf) (window : Window) (ready : IsShelfIn list shelf) → shelf.next ≡ Some window → IsNextUp list ready.0 window shelf.walk
next_up list shelf window ready is = subst (λ (o : Option Window). IsShelfOf list ready.0 o shelf.walk) is ready.1

-- nothing is due where there is no next window
pub none_due : (next : Option Window) (rest : WindowWalk) → round_of next ≡ None → turns_due_of next rest ≡ []
none_due None rest e = refl
none_due (Some w) rest e = absurd cc

pub some_due : (next : Option Window) (rest : WindowWalk) → (round_of next ≡ None → ⊥) → turns_due_of next rest ≡ [] → ⊥
some_due None rest n e = n refl
some_due (Some w) rest n e = cc

-- the first window
pub shelf_first : (list left : List Owned) (room : ℕ) (next : Option Window) (ahead : List Told) (walk : ReadWalk) → IsAt list room ahead left → entries_left walk.entries ≡ left
    → IfSome next (λ _. IsWalk walk.windows) → IfSome next (λ w. ahead ≡ told_window w ∷ turns_ahead walk.windows) → IsShelfOf list room next walk
shelf_first list left room next ahead walk a same ready some = grind (arith, nat_tests)

pub due_next : (next : Option Window) (ahead : List Told) (rest : WindowWalk) → IfNone next (ahead ≡ []) → IfSome next (λ w. ahead ≡ told_window w ∷ turns_ahead rest) → turns_due_of next rest ≡ ahead
due_next None ahead rest none some = sym none
due_next (Some w) ahead rest none some = sym some

fewer_next : (next : Option Window) (t : Told) (ahead : List Told) (rest : WindowWalk) → IfSome next (λ w. ahead ≡ told_window w ∷ turns_ahead rest)
    → length (turns_due_of next rest) < length (t ∷ ahead)
fewer_next None t ahead rest some = omega arith
fewer_next (Some w) t ahead rest some = let same = ap (λ (ts : List Told). length ts) some in omega arith

pub fewer_due : (old next : Option Window) (w : Window) (before rest : WindowWalk) → old ≡ Some w → IfSome next (λ u. turns_ahead before ≡ told_window u ∷ turns_ahead rest)
    → length (turns_due_of next rest) < length (turns_due_of old before)
fewer_due old next w before rest is some = grind (arith, nat_tests, fewer_next next (told_window w) (turns_ahead before) rest some)
