-- Entries that say one value of each byte.
use Rattle.collective_round.proofs.Words.{◌≡◌, ℕ, inl, inr, refl, List, [], ◌∷◌, map, enumerate_from, Owned, Source, cell_of, In, AreFound, IsOnceEach, IsResolved, byte_at, origins, says_moved, in_map, map_in, cells_by_origins, greatest_once, Cell, IsOneValued, Says, said_by, arith, nat_tests, common_steps}

-- so do those of a list with nothing more
pub one_moved : (cell : Owned → Cell) (xs ys : List Owned) → ((o : Owned) → In ys o → In xs o) → IsOneValued (said_by (map cell xs)) → IsOneValued (said_by (map cell ys))
one_moved cell xs ys sub one x v w a b =
    grind (arith, common_steps, map_in cell ys, in_map cell xs, says_moved (λ (c : Cell). enumerate_from c.0 c.1) (map cell ys) (map cell xs) x)

mapped_says : {A B : Type 0} (f : A → B) (ps : List (ℕ × A)) (x : ℕ) (v : B) → Says (map (λ p. (p.0, f p.1)) ps) x v → (a : A) × Says ps x a × (f a ≡ v)
mapped_says f [] x v h = absurd h
mapped_says f (p ∷ ps) x v (inl e) = (p.1, inl (e.0, refl), e.1)
mapped_says f (p ∷ ps) x v (inr h) = let r = mapped_says f ps x v h in (r.0, inr r.1, r.2)

-- resolved entries have of each byte the greatest origin
pub resolved_one : (source : Source) (list result : List Owned) → IsOnceEach (origins list) → IsResolved list result → AreFound source result
    → IsOneValued (said_by (map (λ o. cell_of source o) result))
resolved_one source list result once resolved found x v w a b =
    let cells = cells_by_origins source result found in
    grind (arith, nat_tests, mapped_says (byte_at source) (origins result) x v, mapped_says (byte_at source) (origins result) x w, greatest_once (origins list) once x, resolved.0)
