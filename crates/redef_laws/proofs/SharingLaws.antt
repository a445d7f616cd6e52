-- No two variables of a redefined header share a byte, and none has one of the header.
use Rattle.redef_laws.proofs.Words.{size_pos, ◌≡◌, ℕ, ◌+◌, ◌<◌, ◌≤◌, List, [], ◌∷◌, length, drop, map, true, false, Some, ◌⊎◌, arith, ◌==◌, slice_get, AllByRecursion, nat_tests, length-map, ltb-true, slab_below, Header, Dim, Var, Extra, length_of, is_record, slab, vsize, recsize, record_variables, is_sound, Numbered, added, recsize_shared, count_two, In, filter_in, each_map, equal_above, common_steps}
use Rattle.serial_spec.specs.Layout.{record_slabs}
use Rattle.redef_laws.proofs.GrownLaws.{IsFitVar, is_record_at}
use Rattle.redef_laws.proofs.SoundVars.{inner_holds, vars_apart}
use Rattle.redef_laws.proofs.BeginLaws.{vsizes}
use Rattle.redef_laws.proofs.PlaceLaws.{numbered, old_records, new_records, old_first, in_old, old_numbers, old_first_is}
use Rattle.redef_laws.proofs.KeptLaws.{old_var, old_recsize, all_sizes}

-- ---- a slab holds a byte

lengths_later : (dims : List Dim) (ids : List ℕ) → AllByRecursion (λ id. is_record_at dims id ≡ false) (drop 1 ids)
    → AllByRecursion (λ n. (n == 0) ≡ false) (drop 1 (map (λ id. length_of (slice_get dims id)) ids))
lengths_later dims ids h = grind (arith, common_steps, each_map, drop)

pub slab_some : (header : Header) (v : Var) → IsFitVar header.version header.dims v → 0 < slab header v
slab_some header v fit = grind (arith, nat_tests, inner_holds, lengths_later, size_pos)

-- ---- two record variables

-- one begins where the other's slab ends, or later, and ends before the other's next record
abbrev pub AreOrdered : ℕ → ℕ → ℕ → ℕ → ℕ → Type 0
AreOrdered a n b m size = ((a + n ≤ b) × (b + m ≤ a + size)) ⊎ ((b + m ≤ a) × (a + n ≤ b + size))

-- ---- the size of a record

-- with two record variables at least, a record has the sum of their vsizes
pub recsize_of_two : (header : Header) (n i j : ℕ) (v w : Var) → i < j → slice_get header.vars i ≡ Some v → slice_get header.vars j ≡ Some w → is_record header v ≡ true
    → is_record header w ≡ true → recsize header ≡ vsizes header (old_records header n) + vsizes header (new_records header n)
recsize_of_two header n i j v w l g f d e =
    let two = count_two (λ x. is_record header x) header.vars i j v w l g f d e in
    let long = length-map (record_variables header header.vars) (λ x. slab header x) in
    grind (arith, nat_tests, recsize_shared, equal_above, all_sizes, header.vars, record_slabs)

-- ---- old record variables end before the new ones begin

vsizes_hold : (header : Header) (list : List Numbered) (p : Numbered) → In list p → vsize header p.1 ≤ vsizes header list
vsizes_hold header [] p h = absurd h
vsizes_hold header (q ∷ list) p xs = grind (arith, common_steps, vsizes_hold header list p)

-- two old record variables in the header with what is added
pub old_pair : (old : Header) (extras : List Extra) (i j : ℕ) (v w : Var) → is_sound old ≡ true → i < length old.vars → j < length old.vars
    → slice_get (added old extras).vars i ≡ Some v → slice_get (added old extras).vars j ≡ Some w → is_record (added old extras) v ≡ true → is_record (added old extras) w ≡ true
    → (i ≡ j → ⊥) → AreOrdered v.begin (slab (added old extras) v) w.begin (slab (added old extras) w) (recsize old)
old_pair old extras i j v w sound l l' g f d e other =
    grind (
      arith,
      nat_tests,
      added old extras,
      old_var old extras i v sound l g,
      old_var old extras j w sound l' f,
      vars_apart old i j (old_var old extras i v sound l g).0 (old_var old extras j w sound l' f).0 sound,
      AreOrdered,
    )

pub old_room : (old : Header) (extras : List Extra) (k : ℕ) (v : Var) → is_sound old ≡ true → k < length old.vars → slice_get (added old extras).vars k ≡ Some v
    → is_record (added old extras) v ≡ true
    → v.begin + slab (added old extras) v ≤ old_first (added old extras) (length old.vars) + vsizes (added old extras) (old_records (added old extras) (length old.vars))
old_room old extras k v sound l g e =
    let header = added old extras in
    let n = length old.vars in
    grind (arith, nat_tests, in_old header n k v g e l, old_first_is header n (k, v) (in_old header n k v g e l), filter_in, numbered, old_numbers, ltb-true, vsizes_hold header (old_records header n) (k, v) (in_old header n k v g e l), slab_below header v, old_recsize old extras sound, old_pair old extras k (old_first_is header n (k, v) (in_old header n k v g e l)).0.0 v)
