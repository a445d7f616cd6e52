use Rattle.redef_mover.proofs.Words.{◌≡◌, List, ℕ, take, position, bytes_eq, place_of}
use Rattle.redef_mover.proofs.name_index.first_places.Given as goal

abbrev pub invariant-loop-place : goal.invariant-loop-place
invariant-loop-place g l = (q : List ℕ) → place_of l.places q ≡ position (λ x. bytes_eq (g.T.Named.name_of x) q) (take l.place l.items)
