-- A list of which one element was changed: what holds of each, and how many there are in all.
use Rattle.exchange_crew.proofs.Words.{◌≡◌, ℕ, ◌+◌, ◌<◌, List, [], ◌∷◌, length, set, Some, arith, nat_tests, length-append, same_Some, flat_map, slice_get, entry_set, entry_set_other}

-- what an element changed has more or less, the whole has
set_all : {X Y : Type 0} (f : X → List Y) (xs : List X) (i : ℕ) (x y : X) → slice_get xs i ≡ Some x
    → length (flat_map f (set xs i y)) + length (f x) ≡ length (flat_map f xs) + length (f y)
set_all f [] i x y e = absurd cc
set_all f (z ∷ xs) i x y e = grind (arith, nat_tests, set_all f xs, length-append, set)

pub fewer_all : {X Y : Type 0} (f : X → List Y) (xs : List X) (i : ℕ) (x y : X) → slice_get xs i ≡ Some x → length (f y) < length (f x)
    → length (flat_map f (set xs i y)) < length (flat_map f xs)
fewer_all f xs i x y e h = let whole = set_all f xs i x y e in omega arith

-- an element changed, of which the changed one is so
pub set_each : {X : Type 0} (P : ℕ → X → Type 0) (xs : List X) (i : ℕ) (x y : X) → slice_get xs i ≡ Some x → P i y → ((r : ℕ) (z : X) → slice_get xs r ≡ Some z → P r z)
    → (r : ℕ) (z : X) → slice_get (set xs i y) r ≡ Some z → P r z
set_each {X} P xs i x y e p each r z g = grind (arith, nat_tests, entry_set xs i x y e, set xs i y, entry_set_other, same_Some)
