-- The element with a number.
use Rattle.vara_extents.proofs.Words.{◌≡◌, ℕ, zero, suc, ◌+◌, ◌*◌, ◌%◌, ◌<◌, ◌∙◌, List, [], ◌∷◌, length, drop, Some, arith, slice_get, div_below, mod_below, mul-le, lt_of_mul-lt-mul_right, length-map, Header, Var, Region, size_of, product, row, place, IsIndex, coordinates, index_at, elements, places, length-coordinates, coordinates_at, element_extents, joined, joined_to, coordinates_of, index_of, AreRuns, entry_map, nat_tests, Extent}
use Rattle.vara_extents.proofs.JoinLaws.{run_joined}
use Rattle.vara_extents.proofs.RunLaws.{some_block}

pub numbered_index : (counts : List ℕ) (k : ℕ) → k < product counts → IsIndex counts (coordinates_of counts k)
numbered_index [] k h = tt
numbered_index (n ∷ counts) k h = grind (arith, nat_tests, numbered_index counts (k % product counts), some_block n (product counts) k h, div_below, mod_below)

pub numbered_row : (counts : List ℕ) (k : ℕ) → k < product counts → row counts (coordinates_of counts k) ≡ k
numbered_row [] k h = omega arith
numbered_row (n ∷ counts) k h = grind (arith, nat_tests, some_block n (product counts) k h, numbered_row counts (k % product counts), mod_below k (product counts), coordinates_of)

pub element_at : (g : Region) (k : ℕ) → k < product g.count → slice_get (elements g) k ≡ Some (index_of g k)
element_at g k h =
    grind (arith, nat_tests, entry_map (λ c. index_at g.start g.stride c) (coordinates g.count) k, numbered_row g.count k h, coordinates_at g.count, numbered_index g.count k h)

pub place_at : (header : Header) (v : Var) (g : Region) (k : ℕ) → k < product g.count → slice_get (places header v g) k ≡ Some (place header v (index_of g k))
place_at header v g k h = entry_map (λ i. place header v i) (elements g) k (index_of g k) (element_at g k h)

pub length-places : (header : Header) (v : Var) (g : Region) → length (places header v g) ≡ product g.count
length-places header v g = grind (arith, nat_tests, length-map, length-coordinates)

pub length-element_extents : (header : Header) (v : Var) (g : Region) → length (element_extents header v g) ≡ product g.count
length-element_extents header v g = length-map (places header v g) (λ x. record { at = x; len = size_of v.kind }) ∙ length-places header v g

-- ---- the elements of a run are one extent

pub run_is : (header : Header) (v : Var) (g : Region) (run total k : ℕ) → AreRuns (λ k. place header v (index_of g k)) (size_of v.kind) run total → total ≡ product g.count
    → k * run < total
    → joined (drop (k * run) (element_extents header v g))
    ≡ joined_to (record { at = place header v (index_of g (k * run)); len = run * size_of v.kind }) (joined (drop (k * run + run) (element_extents header v g)))
run_is header v g zero total k h is low = let some = h.some in absurd (omega arith)
run_is header v g (suc n) total k h is low =
    run_joined (element_extents header v g) (size_of v.kind) (k * suc n) n (place header v (index_of g (k * suc n))) (λ i l.
    let less : k < h.parts.0 = lt_of_mul-lt-mul_right (suc n) (omega (arith, low, h.parts.1)) in
    let below : k * suc n + i < total = omega (arith, h.parts.1, l, mul-le (k + 1) (suc n) h.parts.0 (suc n) (omega (arith, less)) (omega arith)) in
    grind (arith, nat_tests, entry_map {B = Extent} (λ x. record { at = x; len = size_of v.kind }) (places header v g) (k * suc n + i), place_at header v g (k * suc n + i), v.kind, h.follow))
