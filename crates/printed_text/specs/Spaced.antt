-- Words on a line. (own)
use Rattle.std.specs.Prelude.{ℕ, List, ◌∷◌, flat_map}

-- the words, each with a space before it
abbrev pub spaced : List (List ℕ) → List ℕ
spaced words = flat_map (λ w. 32 ∷ w) words  -- a space
