-- Lists of lists, one element more.
use Rattle.plan_sums.proofs.Words.{◌≡◌, ◌<◌, ℕ, ◌+◌, sym, ◌∙◌, ap, List, [], ◌∷◌, ◌++◌, length, take, get_or, flat_map, append_assoc, flat_map_more, take_more}

pub flat_push : {X Y : Type 0} (f : X → List Y) (xs : List X) (x : X) → flat_map f (xs ++ x ∷ []) ≡ flat_map f xs ++ f x
flat_push f xs x = sym (flat_map_more f [] xs x)

pub flat_next : {X Y : Type 0} (f : X → List Y) (xs : List X) (i : ℕ) (x : X) → i < length xs → x ≡ get_or xs i x → flat_map f (take i xs) ++ f x ≡ flat_map f (take (i + 1) xs)
flat_next f xs i x there is = rw (take_more xs i x there, flat_push f (take i xs) (get_or xs i x), ← is)

pub flat_added : {X Y : Type 0} (f : X → List Y) (xs : List X) (i : ℕ) (x : X) (begun old new : List Y) → i < length xs → x ≡ get_or xs i x → old ≡ begun ++ flat_map f (take i xs)
    → new ≡ old ++ f x → new ≡ begun ++ flat_map f (take (i + 1) xs)
flat_added f xs i x begun old new there is before more = rw (more, before, ← flat_next f xs i x there is) (append_assoc begun (flat_map f (take i xs)) (f x))

-- what is joined to the first so many is joined to one more
pub taken_more : {X : Type 0} (before xs : List X) (i : ℕ) (d : X) → i < length xs → (before ++ take i xs) ++ get_or xs i d ∷ [] ≡ before ++ take (i + 1) xs
taken_more {X} before xs i d there = append_assoc before (take i xs) (get_or xs i d ∷ []) ∙ ap (λ (ys : List X). before ++ ys) (sym (take_more xs i d there))
