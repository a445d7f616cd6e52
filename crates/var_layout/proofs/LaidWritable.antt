-- A laid out header can be written where its names, types and attributes can.
use Rattle.var_layout.proofs.Words.{◌≡◌, ℕ, suc, ◌-◌, ◌*◌, ◌^◌, ◌<◌, ◌≤◌, List, [], ◌∷◌, inl, inr, holds_or_not, length, Bool, true, false, ◌&&◌, Some, None, refl, sym, ap, ◌∙◌, arith, nat_lt, nat_le, slice_get, position, list_any, list_all, Width, byte_len, nat_tests, prefix_len_passes, slice_get_within, get_or_from_slice_get, and_from, or_parts, leb-true, both_none, and_first, and_second, passes_at, fails_at, Header, Var, Align, most_dims, most_vars, most_dims_of_var, vsize, is_record, placed, begins, begin_width, bad_id, is_writable, is_writable_list, is_writable_var, fits_field, fits_count, is_large_var, size_fault, lies_too_far, HasPlace, is_unplaced, has_writable_names, has_writable_parts, ltb-false}
use Rattle.nc_base.specs.declared.errors.LayoutErr.TheVariants as fault
use Rattle.var_layout.proofs.CreatedFiles.{in_place, near_end, fixed_fits, record_fits, length-placed, no_far}
use Rattle.var_layout.proofs.Searches.{Lies}
use Rattle.var_layout.proofs.LaidPlaces.{lies_at}
use Rattle.var_layout.proofs.LaidApart.{get_there}
use Rattle.var_layout.proofs.LaidOut.{Unplaced, unplaced, laid_sound}

-- ---- tests of lists

all_at : {A : Type 0} (test : A → Bool) (xs : List A) → ((k : ℕ) (x : A) → slice_get xs k ≡ Some x → test x ≡ true) → list_all test xs ≡ true
all_at test [] h = refl
all_at test (x ∷ xs) h = and_from (test x) (list_all test xs) (h 0 x refl) (all_at test xs (λ k y g. h (suc k) y g))

-- where the position of the first is none, each fails
no_position : {A : Type 0} (test : A → Bool) (xs : List A) (k : ℕ) (x : A) → position test xs ≡ None → slice_get xs k ≡ Some x → test x ≡ false
no_position {A} test xs k x h g = grind (arith, nat_tests, slice_get_within xs k x g, get_or_from_slice_get xs k x x g, prefix_len_passes, ltb-false)

-- ---- fields

pub small_field : (w : Width) (n m : ℕ) → 256 ^ byte_len w ≡ m → 2 * n < m → fits_field w n ≡ true
small_field w n m e h = ap (λ (k : ℕ). nat_lt (2 * n) k) e ∙ (let f : nat_lt (2 * n) m ≡ true = grind (arith, nat_tests) in f)

pub small_count : (version n : ℕ) → n < 2 ^ 31 → fits_count version n ≡ true
small_count version n h = grind (arith, nat_tests, small_field)

-- a vsize that the version can store
pub vsize_fits : (header : Header) (v : Var) → vsize header v < 2 ^ 62 → is_large_var header v ≡ false → fits_count header.version (vsize header v) ≡ true
vsize_fits header v l h = grind (arith, nat_tests, small_field, ltb-false)

begin_fits : (header : Header) (v : Var) → lies_too_far header v ≡ false → fits_field (begin_width header.version) v.begin ≡ true
begin_fits header v h = grind (arith, nat_tests, and_first, near_end, small_field)

ids_fit : (version count : ℕ) (ids : List ℕ) → count ≤ 1024 → list_any (λ id. nat_le count id) ids ≡ false → list_all (λ id. fits_count version id) ids ≡ true
ids_fit version count [] l h = refl
ids_fit version count (id ∷ ids) l h = grind (arith, nat_tests, ids_fit version count ids l (or_parts (nat_le count id) _ h).1, or_parts, and_from, small_count)

-- ---- one variable

laid_var : (header : Header) (align : Align) (len first k : ℕ) (v : Var) → Unplaced header → HasPlace header align len first → position (is_large_var header) header.vars ≡ None
    → list_all (has_writable_names header) header.vars ≡ true → Lies header k v → is_writable_var header (in_place header align len k v) ≡ true
laid_var header align len first k v u place sizes names lies =
    let few = near_end header (in_place header align len k v) far in
    and_from _ _
    (and_from _ _ (and_from _ _ (and_from _ _ (and_from _ _ (and_first _ _ (and_first _ _ named)) dims) (and_second _ _ (and_first _ _ named))) (and_second _ _ named))
    (begin_fits header (in_place header align len k v) far))
    (vsize_fits header v (omega arith) (no_position (is_large_var header) header.vars k v sizes there))
  where
    there : slice_get header.vars k ≡ Some v
    there = get_there header k v lies

    named : has_writable_names header v ≡ true
    named = passes_at (has_writable_names header) header.vars names k v there

    far : lies_too_far header (in_place header align len k v) ≡ false
    far = elim (holds_or_not (is_record header v)) [
      | inl e ↦ record_fits header align len k v place.records_fit lies e
      | inr e ↦ fixed_fits header align len k v place.fixed_fit lies e
    ]

    dims : is_writable_list header.version (λ id. fits_count header.version id) v.dims ≡ true
    dims =
        let limits = nat_le (length header.dims) most_dims && nat_le (length header.vars) most_vars in
        let each = list_all (λ w. nat_le (length w.dims) most_dims_of_var) header.vars in
        let few = passes_at (λ w. nat_le (length w.dims) most_dims_of_var) header.vars (and_second limits each u.counts) k v there in
        let l : length v.dims ≤ 32 = leb-true (length v.dims) 32 few in
        let all : length header.dims ≤ 1024 =
        leb-true (length header.dims) 1024 (and_first (nat_le (length header.dims) most_dims) (nat_le (length header.vars) most_vars) (and_first limits each u.counts)) in
        and_from (fits_count header.version (length v.dims)) _ (small_count header.version (length v.dims) (omega arith))
        (ids_fit header.version (length header.dims) v.dims all (fails_at (bad_id header) header.vars k v u.ids there))

pub laid_writable : (header : Header) (align : Align) (len first : ℕ) → 0 < align.header → 0 < align.var → is_unplaced header ≡ true → HasPlace header align len first
    → size_fault header ≡ None → has_writable_parts header ≡ true → is_writable (begins header align len) ≡ true
laid_writable header align len first pos pos' h place sizes parts =
    let u = unplaced header h in
    let large = no_far (λ k. fault.VarSize k) (position (is_large_var header) header.vars) (sym (both_none _ _ sizes).0) in
    let few : length header.vars ≤ 8192 =
    leb-true (length header.vars) 8192 (and_second (nat_le (length header.dims) most_dims) (nat_le (length header.vars) most_vars)
    (and_first _ (list_all (λ v. nat_le (length v.dims) most_dims_of_var) header.vars) u.counts)) in
    and_from _ _
    (and_from _ _ (and_from _ _ (and_from _ _ (laid_sound header align len first pos pos' h place) (ap (λ (n : ℕ). fits_count header.version n) u.none ∙ small_count header.version 0 (omega arith)))
    (and_first _ _ (and_first _ _ parts))) (and_second _ _ (and_first _ _ parts)))
    (and_from _ _ (ap (λ (n : ℕ). fits_count header.version n) (length-placed header align len 0 header.vars) ∙ small_count header.version (length header.vars) (omega arith))
    (all_at (is_writable_var (begins header align len)) (placed header align len 0 header.vars) (λ k w g. at k w (lies_at header align len k w g) u large (and_second _ _ parts))))
  where
    at : (k : ℕ) (w : Var) → ((v : Var) × Lies header k v × (in_place header align len k v ≡ w)) → Unplaced header → position (is_large_var header) header.vars ≡ None
        → list_all (has_writable_names header) header.vars ≡ true → is_writable_var (begins header align len) w ≡ true
    at k w found u large names = rw (← found.2) (laid_var header align len first k found.0 u place large names found.1)
