-- What is accepted stays so where the rank knows of more records.
use Rattle.rank_core.proofs.Words.{◌≡◌, ℕ, ◌≤◌, refl, List, ◌∷◌, map, false, Option, Some, None, arith, slice_get, Header, Var, Region, Direction, lengths, bound, bad_start, bad_edge, nat_tests, some_start, some_edge, check, check_some, passed}
use Rattle.nc_base.specs.declared.request.Direction.TheVariants as way
use Rattle.nc_base.specs.declared.answer.Code.TheVariants as code

-- ---- one dimension

start_past : (known more start count : ℕ) → known ≤ more → bad_start (Some known) start count ≡ false → bad_start (Some more) start count ≡ false
start_past known more start count le h = grind (arith, nat_tests)

edge_past : (known more start count stride : ℕ) → known ≤ more → bad_edge (Some known) start count stride ≡ false → bad_edge (Some more) start count stride ≡ false
edge_past known more start count stride le h = grind (arith, nat_tests)

-- ---- all dimensions

starts_more : (d : Direction) (known more : ℕ) (ns starts counts : List ℕ) → known ≤ more
    → some_start (map (bound d known) ns) starts counts ≡ false → some_start (map (bound d more) ns) starts counts ≡ false
starts_more d known more (n ∷ ns) (s ∷ starts) (c ∷ counts) le h = grind (arith, nat_tests, start_past, starts_more d known more ns starts counts le)
starts_more d known more xs starts counts le h = refl

edges_more : (d : Direction) (known more : ℕ) (ns starts counts strides : List ℕ) → known ≤ more
    → some_edge (map (bound d known) ns) starts counts strides ≡ false → some_edge (map (bound d more) ns) starts counts strides ≡ false
edges_more d known more (n ∷ ns) (s ∷ starts) (c ∷ counts) (t ∷ strides) le h =
    grind (arith, nat_tests, edge_past, edges_more d known more ns starts counts strides le)
edges_more d known more xs starts counts strides le h = refl

-- ---- a region

some_more : (header : Header) (var : Option Var) (g : Region) (known more : ℕ) (d : Direction) → known ≤ more
    → check_some header var g known d ≡ code.Ok → check_some header var g more d ≡ code.Ok
some_more header None g known more d le h = h
some_more header (Some var) g known more d le h =
    let p = passed header var g known d h in
    grind (arith, nat_tests, starts_more d known more (lengths header var) g.start g.count le p.start, edges_more d known more (lengths header var) g.start g.count g.stride le p.edge)

pub check_more : (header : Header) (var : ℕ) (g : Region) (known more : ℕ) (d : Direction) → known ≤ more
    → check header var g known d ≡ code.Ok → check header var g more d ≡ code.Ok
check_more header var g known more d le h = some_more header (slice_get header.vars var) g known more d le h
