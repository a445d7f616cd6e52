-- The part of a list between two places.
use Rattle.list_laws.proofs.Words.{◌≡◌, ℕ, ◌+◌, ◌-◌, ◌≤◌, ◌∙◌, ap, List, [], ◌++◌, map, take, drop, arith, take-add, drop-drop, drop-map, take-map, nat_tests}

-- the entries from `from` to below `to`
abbrev pub part : {A : Type 0} → ℕ → ℕ → List A → List A
part from to xs = take (to - from) (drop from xs)

pub part_joined : {A : Type 0} (xs : List A) (from mid to : ℕ) → from ≤ mid → mid ≤ to → part from to xs ≡ part from mid xs ++ part mid to xs
part_joined xs from mid to h k = grind (arith, nat_tests, take-add (mid - from) (to - mid) (drop from xs), drop-drop (mid - from) from xs)

pub part_none : {A : Type 0} (xs : List A) (from to : ℕ) → to ≤ from → part from to xs ≡ []
part_none xs from to h = let none : to - from ≡ 0 = omega arith in ap (λ (n : ℕ). take n (drop from xs)) none

pub part_map : {A B : Type 0} (f : A → B) (xs : List A) (from to : ℕ) → part from to (map f xs) ≡ map f (part from to xs)
part_map f xs from to = ap (λ ys. take (to - from) ys) (drop-map f from xs) ∙ take-map f (to - from) (drop from xs)
