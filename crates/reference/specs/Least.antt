-- The least of numbers, one after another. (own)
--     lesser_of known x         the lesser of a number that is known, if there is one, and of x
--     least_with known xs       the least of a number that is known and of these
use Rattle.std.specs.Prelude.{ℕ, min, List, [], ◌∷◌, Option, Some, None}

abbrev pub lesser_of : Option ℕ → ℕ → ℕ
lesser_of None x = x
lesser_of (Some a) x = min a x

abbrev pub least_with : Option ℕ → List ℕ → Option ℕ
least_with known [] = known
least_with known (x ∷ xs) = least_with (Some (lesser_of known x)) xs
