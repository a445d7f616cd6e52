-- A walk over what is left.
use Rattle.list_laws.proofs.Words.{◌≡◌, List, ◌∷◌, Some, arith, MakesProgress, item_count, nat_tests}

pub goes_on : {S A : Type 0} (rest : S → List A) (can : S → Type 0) (s t : S) (x : A) → rest s ≡ x ∷ rest t → can t → MakesProgress can (item_count rest) s (Some x) t
goes_on {S} {A} rest can s t x e h = grind (arith, nat_tests)
