-- The elements of a region have different indices, so those of a sound header's variable lie apart.
use Rattle.overlay_laws.proofs.Words.{◌≡◌, ℕ, ◌-◌, ◌<◌, List, [], ◌∷◌, true, Some, arith, slice_get, same_Some, same_factor, Header, Var, Region, size_of, is_sound, row, place, IsIndex, IsElement, coordinates, index_at, elements, places, length-coordinates, elements_apart, LieApart, HaveStrides, nat_tests, mapped_entry, slice_get_within, product, some_factor, mod_below, div_below, div-add-mod', ◌/◌, ◌%◌, coordinates_at}

-- the number of a region's element is its row-major number
-- the coordinates that have this number
index_for : (counts : List ℕ) (m : ℕ) → m < product counts → (c : List ℕ) × IsIndex counts c × (row counts c ≡ m)
index_for [] m h = ([], tt, omega arith)
index_for (n ∷ counts) m h =
    let some = some_factor n (product counts) m h in
    let inner = index_for counts (m % product counts) (mod_below m (product counts) some) in
    (m / product counts ∷ inner.0, (div_below m (product counts) n some h, inner.1), omega (arith, inner.2, div-add-mod' m (product counts)))

-- the number of a region's element is its row-major number
pub coordinate_row : (counts : List ℕ) (m : ℕ) (c : List ℕ) → slice_get (coordinates counts) m ≡ Some c → IsIndex counts c × (m ≡ row counts c)
coordinate_row counts m c h =
    let r = index_for counts m (grind (arith, nat_tests, slice_get_within (coordinates counts) m c h, length-coordinates counts)) in
    grind (arith, nat_tests, coordinates_at counts r.0 r.1, r.1, r.2, same_Some)

index_once : (counts starts strides c d : List ℕ) → HaveStrides counts starts strides → IsIndex counts c → IsIndex counts d
    → index_at starts strides c ≡ index_at starts strides d → c ≡ d
index_once (n ∷ counts) (s ∷ starts) (t ∷ strides) (x ∷ c) (y ∷ d) h p q e =
    grind (arith, nat_tests, index_once counts starts strides c d h.1 p.1 q.1, same_factor)
index_once counts starts strides c d h p q e = grind (arith, nat_tests)

-- elements at different numbers have different indices
pub elements_once : (g : Region) (i j : ℕ) (a : List ℕ) → HaveStrides g.count g.start g.stride
    → slice_get (elements g) i ≡ Some a → slice_get (elements g) j ≡ Some a → i ≡ j
elements_once g i j a h p q =
    let c = mapped_entry (λ c. index_at g.start g.stride c) (coordinates g.count) i a p in
    grind (arith, nat_tests, mapped_entry (λ c. index_at g.start g.stride c) (coordinates g.count) j a q, coordinate_row g.count i, coordinate_row g.count j (mapped_entry (λ c. index_at g.start g.stride c) (coordinates g.count) j a q).0 (mapped_entry (λ c. index_at g.start g.stride c) (coordinates g.count) j a q).1.0, index_once g.count g.start g.stride)

pub region_apart : (header : Header) (k : ℕ) (v : Var) (g : Region) → is_sound header ≡ true → slice_get header.vars k ≡ Some v
    → HaveStrides g.count g.start g.stride → ((i : ℕ) (a : List ℕ) → slice_get (elements g) i ≡ Some a → IsElement header v a)
    → LieApart (size_of v.kind) (places header v g)
region_apart header k v g sound is h each i j p q e f differ = grind (arith, nat_tests, mapped_entry, place, elements_apart, elements_once, v.kind)
