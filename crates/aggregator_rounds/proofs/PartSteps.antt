-- Parts of entries, and entries laid over a buffer one by one.
use Rattle.aggregator_rounds.proofs.Words.{◌≡◌, ℕ, zero, suc, ◌+◌, ◌-◌, ◌<◌, ◌≤◌, refl, sym, ◌∙◌, ap, List, [], ◌∷◌, length, take, drop, get_or, min, slice_get, arith, set, take-take, take_all, length-take, get_or_default, slice_get-get_or, Owned, Post, written, Cell, write_cells, moved_down, clip, Source, cell_of, AreFound, bytes_of_post, source_of, part_at, part_in, blob_at, buffer_cell, nat_tests, ltb-true, ltb-false, common_steps}

-- ---- slices of slices

take_none : {X : Type 0} (n : ℕ) → take {A = X} n [] ≡ []
take_none n = grind (arith, nat_tests)

drop_taken : {X : Type 0} (k n : ℕ) (xs : List X) → drop k (take n xs) ≡ take (n - k) (drop k xs)
drop_taken (suc k) (suc n) (x ∷ xs) = grind (arith, nat_tests, drop_taken k n xs)
drop_taken k n xs = grind (arith, nat_tests, take_none)

take_least : {X : Type 0} (m n : ℕ) (xs : List X) → take m (take n xs) ≡ take (min m n) xs
take_least m n xs = grind (arith, nat_tests, ltb-true, take_all, length-take, ltb-false, take-take)

-- ---- the part of an entry

-- its bytes are those that the entry's cell has there
pub part_bytes : (lo hi : ℕ) (o : Owned) (b : List ℕ)
    → take (part_in lo hi o).extent.len (drop (part_in lo hi o).from b)
    ≡ take (hi - part_at lo hi o) (drop (lo - o.extent.at) (take o.extent.len (drop o.from b)))
part_bytes lo hi o b =
    by_len (min (hi - part_at lo hi o) (o.extent.len - (lo - o.extent.at))) refl
    ∙ sym (grind (arith, common_steps, drop_taken (lo - o.extent.at) o.extent.len (drop o.from b), take_least (hi - part_at lo hi o) (o.extent.len - (lo - o.extent.at)) (drop (lo - o.extent.at) (drop o.from b))))
  where
    long : (part_in lo hi o).extent.len ≡ min (hi - part_at lo hi o) (o.extent.len - (lo - o.extent.at))
    long = omega arith

    by_len : (m : ℕ) → min (hi - part_at lo hi o) (o.extent.len - (lo - o.extent.at)) ≡ m
        → take (part_in lo hi o).extent.len (drop (part_in lo hi o).from b)
        ≡ take (min (hi - part_at lo hi o) (o.extent.len - (lo - o.extent.at))) (drop (o.from + (lo - o.extent.at)) b)
    by_len zero e = grind (arith, nat_tests)
    by_len (suc m) e =
        let begin : (part_in lo hi o).from ≡ o.from + (lo - o.extent.at) = omega arith in
        ap (λ (k : ℕ). take (part_in lo hi o).extent.len (drop k b)) begin
        ∙ ap (λ (k : ℕ). take k (drop (o.from + (lo - o.extent.at)) b)) long

-- ---- a post's bytes

pub slot_in : (posts : List Post) (slot : ℕ) → 1 ≤ length (bytes_of_post (slice_get posts slot)) → slot < length posts
slot_in [] slot h = absurd (omega arith)
slot_in (p ∷ posts) slot h = grind (arith, nat_tests, slot_in posts)

slot_bytes : (posts : List Post) (slot : ℕ) (p : Post) → slot < length posts → (get_or posts slot p).bytes ≡ bytes_of_post (slice_get posts slot)
slot_bytes posts slot p l = sym (ap bytes_of_post (slice_get-get_or posts slot p l))

-- the bytes of the post that an entry names
pub found_bytes : (posts given : List Post) (o : Owned) (p : Post) (bytes : List ℕ) → 1 ≤ o.extent.len → o.from + o.extent.len ≤ length (source_of posts o.rank o.slot)
    → given ≡ posts → bytes ≡ (get_or given o.slot p).bytes → bytes ≡ source_of posts o.rank o.slot
found_bytes posts given o p bytes some room e of = grind (arith, nat_tests, slot_bytes, slot_in, source_of, get_or)

pub found_at : (source : Source) (list : List Owned) (i : ℕ) (d : Owned) → i < length list → AreFound source list
    → (get_or list i d).from + (get_or list i d).extent.len ≤ length (source (get_or list i d).rank (get_or list i d).slot)
found_at source [] i d l f = absurd (omega arith)
found_at source (o ∷ list) i d l f = grind (arith, nat_tests, found_at source list)

-- the part of an entry laid over a buffer is its cell in the window
pub laid_entry : (lo hi : ℕ) (source : Source) (o p : Owned) (post bytes buf now : List ℕ) → p ≡ part_in lo hi o → bytes ≡ take p.extent.len (drop p.from post)
    → post ≡ source o.rank o.slot → now ≡ written buf (p.extent.at - lo) bytes → now ≡ write_cells buf (moved_down lo (clip lo hi (cell_of source o) ∷ []))
laid_entry lo hi source o p post bytes buf now part is of laid = grind (arith, nat_tests, part_bytes)

-- a part lies in its window, and in its entry's bytes
pub part_high : (lo n : ℕ) (o p : Owned) → p ≡ part_in lo (lo + n) o → (lo ≤ p.extent.at) × (p.extent.at - lo + p.extent.len ≤ n) × (p.from + p.extent.len ≤ o.from + o.extent.len)
part_high lo n o p e = grind (arith, nat_tests)

-- ---- one entry more

-- the cells of entries in a window, as the buffer sees them
abbrev pub laid_cell : Source → ℕ → ℕ → Owned → Cell
laid_cell source lo hi o = ((clip lo hi (cell_of source o)).0 - lo, (clip lo hi (cell_of source o)).1)

-- ---- the part of an entry that goes into its blob

blob_in : (blobs : List (List ℕ)) (slot : ℕ) → 1 ≤ length (blob_at blobs slot) → slot < length blobs
blob_in [] slot h = absurd (omega arith)
blob_in (b ∷ blobs) slot h = grind (arith, nat_tests, blob_in blobs)

pub slot_below : (blobs : List (List ℕ)) (o : Owned) → 1 ≤ o.extent.len → o.from + o.extent.len ≤ length (blob_at blobs o.slot) → o.slot < length blobs
slot_below blobs o h k = blob_in blobs o.slot (omega arith)

-- the bytes of an entry's part put into its blob
pub collected_entry : (lo hi : ℕ) (buf : List ℕ) (o p : Owned) (blobs : List (List ℕ)) (d taken bytes now : List ℕ) → 1 ≤ o.extent.len
    → o.from + o.extent.len ≤ length (blob_at blobs o.slot) → taken ≡ get_or blobs o.slot d → p ≡ part_in lo hi o
    → bytes ≡ take p.extent.len (drop (p.extent.at - lo) buf) → now ≡ written taken p.from bytes
    → set blobs o.slot now ≡ set blobs o.slot (written (blob_at blobs o.slot) (buffer_cell lo hi buf o).0 (buffer_cell lo hi buf o).1)
collected_entry lo hi buf o p blobs d taken bytes now some fit is part of e = grind (arith, nat_tests, set, get_or_default, slot_below)
