-- Ranges that grow at their end.
use Rattle.std.proofs.Common.{◌≡◌, ◌∙◌, ℕ, ◌+◌, [], ◌∷◌, ◌++◌, map, ap, arith, add-one}
use Rattle.std.proofs.lemmas.List.{map_push}
use Rattle.std.specs.List.{range_with_len}
use Rattle.list_laws.proofs.Ranges.{range_push}

pub map_range_push : {X : Type 0} (f : ℕ → X) (k : ℕ) → map f (range_with_len 0 (k + 1)) ≡ map f (range_with_len 0 k) ++ f k ∷ []
map_range_push f k = rw add-one (ap (map f) (range_push 0 k k (omega arith)) ∙ map_push f (range_with_len 0 k) k)
