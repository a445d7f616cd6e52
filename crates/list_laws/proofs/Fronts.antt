-- Beginnings of lists.
use Rattle.list_laws.proofs.Words.{◌≡◌, refl, List, [], ◌∷◌, length, take, ◌≤◌, arith, inl, inr, ◌⊎◌, ◌++◌, nat_tests, take-append_seam, length-append}
use mathlib.Core.List.{IsPrefix}

pub first_of : {X : Type 0} (xs ys : List X) → IsPrefix xs ys → xs ≡ take (length xs) ys
first_of xs ys p = grind (arith, nat_tests, take-append_seam xs p.0, p.1)

pub prefix_long : {X : Type 0} (xs ys : List X) → IsPrefix xs ys → length xs ≤ length ys
prefix_long xs ys p = grind (arith, nat_tests, length-append xs p.0, p.1)

-- a beginning of a list and one item more is all of it, or a beginning of the list
pub front_or_all : {X : Type 0} (xs ys : List X) (z : X) → IsPrefix xs (ys ++ z ∷ []) → IsPrefix xs ys ⊎ (xs ≡ ys ++ z ∷ [])
front_or_all [] ys z e = inl (ys, refl)
front_or_all (x ∷ []) [] z (more, e) = inr (let a : x ≡ z = cc in λ i. a i ∷ [])
front_or_all (x ∷ y ∷ xs) [] z (more, e) = absurd cc
front_or_all (x ∷ xs) (y ∷ ys) z (more, e) = grind (arith, nat_tests, front_or_all xs ys z (more, cc))
