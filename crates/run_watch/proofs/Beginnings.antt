-- Of two beginnings of one list the longer begins with both.
use Rattle.run_watch.proofs.Words.{◌≡◌, ◌≤◌, List, [], ◌∷◌, length, Bool, true, false, nat_lt, if◌then◌else◌, refl, sym, subst, ◌∙◌, ltb-true, ltb-false, arith, Heard, IsBeginning, longer, BeginOneList, nat_tests}
use mathlib.Core.List.{IsPrefix}
use Rattle.run_watch.proofs.Moves.{itself}

-- of two beginnings of a list the shorter is a beginning of the longer
of_longer : {X : Type 0} (xs ys zs : List X) → IsPrefix xs zs → IsPrefix ys zs → length xs ≤ length ys → IsPrefix xs ys
of_longer [] ys zs p q short = (ys, refl)
of_longer (x ∷ xs) [] zs p q short = absurd (omega (arith, short))
of_longer (x ∷ xs) (y ∷ ys) [] (more, e) q short = cc
of_longer (x ∷ xs) (y ∷ ys) (z ∷ zs) (more, e) (rest, f) short = grind (arith, nat_tests, of_longer xs ys zs (more, cc) (rest, cc))

begins_with : (early late told : Heard) → IsBeginning early told → IsBeginning late told → length early.pairs ≤ length late.pairs → IsBeginning early late
begins_with early late told e l short = (e.0 ∙ sym l.0, of_longer early.pairs late.pairs told.pairs e.1 l.1 short)

both_begin : (one other : Heard) → BeginOneList one other → IsBeginning one (longer one other) × IsBeginning other (longer one other)
both_begin one other (told, e, l) = by (nat_lt (length one.pairs) (length other.pairs)) refl
  where
    by : (more : Bool) → nat_lt (length one.pairs) (length other.pairs) ≡ more → IsBeginning one (if more then other else one) × IsBeginning other (if more then other else one)
    by true e' = let short = ltb-true (length one.pairs) (length other.pairs) e' in (begins_with one other told e l (omega (arith, short)), itself other)
    by false e' = (itself one, begins_with other one told l e (ltb-false (length one.pairs) (length other.pairs) e'))

-- a view that goes on with the longer list begins with its own and with the note's
pub learned : (one note late : Heard) → late ≡ longer one note → BeginOneList one note → IsBeginning one late × IsBeginning note late
learned one note late is both = subst (λ (h : Heard). IsBeginning one h × IsBeginning note h) (sym is) (both_begin one note both)
