-- An element that stood twice would hold its first byte twice.
use Rattle.rank_items.proofs.Words.{◌≡◌, ℕ, zero, suc, ◌*◌, ◌≤◌, refl, sym, ap, ◌∙◌, List, [], ◌∷◌, map, true, Option, Some, arith, slice_get, flat_map, is_some, range_with_len, length-range_with_len, size_pos, same_factor, Header, Var, Post, size_of, place, elements, places, bytes_of, bytes_of_some, holdings, Holding, IsOwnOnce, HasOwnElements, entry_map, get_left, get_right, value_of_some, nat_tests}

-- ---- blocks of one length

range_first : (a n : ℕ) → 1 ≤ n → slice_get (range_with_len a n) 0 ≡ Some a
range_first a n h = grind (arith, nat_tests)

-- the first byte of block k
block_first : (n : ℕ) → 1 ≤ n → (xs : List ℕ) (k m x : ℕ) → m ≡ k * n → slice_get xs k ≡ Some x → slice_get (flat_map (λ y. range_with_len y n) xs) m ≡ Some x
block_first n h [] k m x f e = absurd cc
block_first n h (y ∷ xs) zero m x f e =
    let here : y ≡ x = cc in
    let none : m ≡ 0 = omega arith in
    ap (λ (j : ℕ). slice_get (flat_map (λ z. range_with_len z n) (y ∷ xs)) j) none
    ∙ get_left (range_with_len y n) (flat_map (λ z. range_with_len z n) xs) 0 (omega (arith, length-range_with_len y n)) ∙ range_first y n h ∙ ap (λ (z : ℕ). Some z) here
block_first n h (y ∷ xs) (suc k) m x f e =
    get_right (range_with_len y n) (flat_map (λ z. range_with_len z n) xs) (k * n) m (omega (arith, length-range_with_len y n)) ∙ block_first n h xs k (k * n) x refl e

-- ---- the first byte of an element

byte_there : (header : Header) (p : Post) (v : Var) (k : ℕ) (index : List ℕ) → slice_get header.vars p.var ≡ Some v → slice_get (elements p.region) k ≡ Some index
    → slice_get (bytes_of header p) (k * size_of v.kind) ≡ Some (place header v index)
byte_there header p v k index e f =
    ap (λ (m : Option Var). slice_get (bytes_of_some header m p) (k * size_of v.kind)) e
    ∙ block_first (size_of v.kind) (size_pos v.kind) (places header v p.region) k (k * size_of v.kind) (place header v index) refl (entry_map (λ i. place header v i) (elements p.region) k index f)

held_at : (header : Header) (rank : ℕ) (puts : List Post) (i : ℕ) (p : Post) → slice_get puts i ≡ Some p
    → slice_get (holdings header (map (λ p. (rank, p)) puts)) i ≡ Some ((rank, p.id), bytes_of header p)
held_at header rank puts i p e =
    entry_map (λ (r : ℕ × Post). let held : Holding = ((r.0, r.1.id), bytes_of header r.1) in held) (map (λ q. (rank, q)) puts) i (rank, p) (entry_map (λ q. (rank, q)) puts i p e)

pub own_elements : (header : Header) (puts : List Post) (rank : ℕ) → ((i : ℕ) (p : Post) → slice_get puts i ≡ Some p → is_some (slice_get header.vars p.var) ≡ true)
    → IsOwnOnce (holdings header (map (λ p. (rank, p)) puts)) → HasOwnElements puts
own_elements header puts rank vars own = λ i j k l p q index here there id var a b.
    let found = value_of_some (slice_get header.vars p.var) (vars i p here) in
    let v = found.0 in
    let same = ap (λ (n : ℕ). slice_get header.vars n) (sym var) ∙ found.1 in
    let key = ap (λ (n : ℕ). let pair : ℕ × ℕ = (rank, n) in pair) id in
    let both = own i j ((rank, p.id), bytes_of header p) ((rank, q.id), bytes_of header q) (k * size_of v.kind) (l * size_of v.kind) (place header v index)
    (held_at header rank puts i p here) (held_at header rank puts j q there) key (byte_there header p v k index found.1 a) (byte_there header q v l index same b) in
    (both.0, same_factor k l (size_of v.kind) (size_pos v.kind) both.1)
