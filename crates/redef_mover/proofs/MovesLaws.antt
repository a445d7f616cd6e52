-- Slabs moved one after another: what is left to be moved gives the whole.
use Rattle.redef_mover.proofs.Words.{◌≡◌, ℕ, ◌+◌, ◌*◌, ◌<◌, refl, ◌∙◌, ap, List, [], ◌∷◌, ◌++◌, length, map, take, get_or, append_assoc, arith, subst, sym, filter, flat_map, reverse, range_with_len, fold-append, flat_map-append, append-nil, map-append, reverse-append, take_more, filter-append, entry_in, in_map, map_map, range_append, Slab, In, in_flat, in_left, in_range, in_right, changes, Shift, Slabs, all_calls, all_moved, further, listed, slab_calls, slab_moved, slab_of, slabs_at, nat_tests, fold}

-- ---- two lists of slabs

pub moved_append : (file : List ℕ) (a b : List Slab) → all_moved file (a ++ b) ≡ all_moved (all_moved file a) b
moved_append file a b = ap (λ ss. fold slab_moved file ss) (filter-append changes a b) ∙ fold-append slab_moved file (filter changes a) (filter changes b)

pub called_append : (z : ℕ) (a b : List Slab) → all_calls z (a ++ b) ≡ all_calls z a ++ all_calls z b
called_append z a b = ap (λ ss. flat_map (slab_calls z) ss) (filter-append changes a b) ∙ flat_map-append (slab_calls z) (filter changes a) (filter changes b)

-- ---- a list from its end

pub last_first : {A B : Type 0} (f : A → B) (xs : List A) (k n : ℕ) (d : A) → n ≡ k + 1 → k < length xs
    → reverse (map f (take n xs)) ≡ f (get_or xs k d) ∷ reverse (map f (take k xs))
last_first f xs k n d e h =
    grind (arith, nat_tests, take_more xs k d h, map-append f (take k xs) (get_or xs k d ∷ []), reverse-append (map f (take k xs)) (f (get_or xs k d) ∷ []))

-- the slabs of one record from the last one down: the last of the first n, and those before it
pub slab_first : (a b : ℕ) (ss : List Shift) (k n : ℕ) (d : Shift) (s : Slab) → s ≡ further a b (slab_of (get_or ss k d)) → n ≡ k + 1 → k < length ss
    → reverse (map (further a b) (map slab_of (take n ss))) ≡ (s ∷ []) ++ reverse (map (further a b) (map slab_of (take k ss)))
slab_first a b ss k n d s e m h = grind (arith, nat_tests, map_map (further a b) slab_of (take n ss), map_map (further a b) slab_of (take k ss), last_first)

pub in_record : (a b : ℕ) (ss : List Shift) (k : ℕ) (d : Shift) → k < length ss → In (map (further a b) (map slab_of ss)) (further a b (slab_of (get_or ss k d)))
in_record a b ss k d h = in_map (further a b) (map slab_of ss) (slab_of (get_or ss k d)) (in_map slab_of ss (get_or ss k d) (entry_in ss k d h))

-- ---- records from the last one down

-- the slabs below those that were moved, where n records are left
abbrev pub below : Slabs → ℕ → List Slab
below slabs n = reverse (map slab_of slabs.fixed.items ++ flat_map (slabs_at slabs.step slabs.records.items) (range_with_len 0 n))

pub record_first : (slabs : Slabs) (xs : List Shift) (r n a b : ℕ) → xs ≡ slabs.records.items → n ≡ r + 1 → a ≡ r * slabs.step.old → b ≡ r * slabs.step.new
    → below slabs n ≡ reverse (map (further a b) (map slab_of xs)) ++ below slabs r
record_first slabs xs r n a b is e f g =
    subst (λ (ss : List Shift). below slabs n ≡ reverse (map (further a b) (map slab_of ss)) ++ below slabs r) (sym is)
    (grind (
      arith,
      nat_tests,
      range_append 0 r 1,
      flat_map-append (slabs_at slabs.step slabs.records.items) (range_with_len 0 r) (range_with_len (0 + r) 1),
      append-nil (slabs_at slabs.step slabs.records.items (0 + r)),
      append_assoc,
      reverse-append,
    ))

pub no_further : (a b : ℕ) (s : Slab) → a ≡ 0 → b ≡ 0 → further a b s ≡ s
no_further a b s e f = grind (arith, nat_tests)

pub map_id : {A : Type 0} (f : A → A) (xs : List A) → ((x : A) → f x ≡ x) → map f xs ≡ xs
map_id f [] h = refl
map_id f (x ∷ xs) h = λ t. h x t ∷ map_id f xs h t

pub fixed_last : (slabs : Slabs) (xs : List Shift) (n a b : ℕ) → xs ≡ slabs.fixed.items → n ≡ 0 → a ≡ 0 → b ≡ 0 → below slabs n ≡ reverse (map (further a b) (map slab_of xs))
fixed_last slabs xs n a b is e f g =
    subst (λ (ss : List Shift). below slabs n ≡ reverse (map (further a b) (map slab_of ss))) (sym is) (grind (arith, nat_tests, append-nil (map slab_of slabs.fixed.items), map_id, no_further))

-- ---- each slab is one of those listed

pub fixed_listed : (slabs : Slabs) (xs : List Shift) (a b : ℕ) (s : Slab) → xs ≡ slabs.fixed.items → a ≡ 0 → b ≡ 0 → In (map (further a b) (map slab_of xs)) s → In (listed slabs) s
fixed_listed slabs xs a b s is e f = grind (arith, nat_tests, in_left, map_id, no_further)

pub record_listed : (slabs : Slabs) (xs : List Shift) (r a b : ℕ) (s : Slab) → xs ≡ slabs.records.items → r < slabs.count → a ≡ r * slabs.step.old → b ≡ r * slabs.step.new
    → In (map (further a b) (map slab_of xs)) s → In (listed slabs) s
record_listed slabs xs r a b s is l e f = grind (arith, nat_tests, in_range 0 slabs.count r, in_right, in_flat)
