-- What is added to a header keeps its variables: their kinds, and the lengths of their dimensions.
use Rattle.serial_spec.proofs.Words.{◌≡◌, ℕ, zero, suc, ◌+◌, refl, sym, List, [], ◌∷◌, ◌++◌, length, map, true, false, Some, None, append_assoc, arith, append-nil, position_from-zero, enumerate_from, AllByRecursion, slice_get, bytes_eq, nat_le, and_second, both_none, none_of_test, none_before_map, Header, Dim, Var, Attr, Extra, length_of, bad_id, is_sound, with_var_attr, with_extra, added, begins_by_number, begin_of_number, with_begins, redefined_header, KeepsVars, fails_each, entry_map, get_left, entry_numbered, nat_tests, either, common_steps}
use Rattle.nc_base.specs.declared.script.Extra.TheVariants as extra
use Rattle.serial_spec.proofs.RoomLaws.{untested}

-- ---- a header of which another is a part

-- a variable of this kind and with these dimensions stands there
abbrev IsKept : List Var → ℕ → Var → Type 0
IsKept ws k v = (w : Var) × (slice_get ws k ≡ Some w) × (w.kind ≡ v.kind) × (w.dims ≡ v.dims)

record Grew (h g : Header) : Type 0 where
  more : List Dim
  dims : g.dims ≡ h.dims ++ more
  vars : (k : ℕ) (v : Var) → slice_get h.vars k ≡ Some v → IsKept g.vars k v

grew_on : (h g f : Header) → Grew h g → Grew g f → Grew h f
grew_on h g f a b = grind (arith, nat_tests, append_assoc)

pub in_front : (vs ws : List Var) (k : ℕ) (v : Var) → slice_get vs k ≡ Some v → slice_get (vs ++ ws) k ≡ Some v
in_front [] ws k v h = absurd cc
in_front (x ∷ vs) ws k v h = grind (arith, nat_tests, in_front vs ws)

attr_kept : (name : List ℕ) (a : Attr) (vs : List Var) (k : ℕ) (v : Var) → slice_get vs k ≡ Some v → IsKept (with_var_attr name a vs) k v
attr_kept name a [] k v h = absurd cc
attr_kept name a (x ∷ vs) zero v h =
    either (λ (ws : List Var). IsKept ws 0 v) (bytes_eq x.name name) _ _
    (λ e. (record x { attrs = x.attrs ++ a ∷ [] }, refl, grind (arith, nat_tests), grind (arith, nat_tests))) (λ e. (v, h, refl, refl))
attr_kept name a (x ∷ vs) (suc k) v h =
    either (λ (ws : List Var). IsKept ws (suc k) v) (bytes_eq x.name name) _ _ (λ e. (v, h, refl, refl)) (λ e. attr_kept name a vs k v h)

one_more : (h : Header) (e : Extra) → Grew h (with_extra h e)
one_more h (extra.Dim d) = record { more = d ∷ []; dims = refl; vars = λ k v e. (v, e, refl, refl) }
one_more h (extra.Var kind name dims) =
    record { more = []; dims = sym (append-nil h.dims); vars = λ k v e. (v, in_front h.vars _ k v e, refl, refl) }
one_more h (extra.Att None a) = record { more = []; dims = sym (append-nil h.dims); vars = λ k v e. (v, e, refl, refl) }
one_more h (extra.Att (Some owner) a) = record { more = []; dims = sym (append-nil h.dims); vars = attr_kept owner a h.vars }

all_more : (h : Header) (extras : List Extra) → Grew h (added h extras)
all_more h [] = record { more = []; dims = sym (append-nil h.dims); vars = λ k v e. (v, e, refl, refl) }
all_more h (e ∷ extras) = grew_on h (with_extra h e) (added (with_extra h e) extras) (one_more h e) (all_more (with_extra h e) extras)

-- ---- begins

placed_more : (h : Header) (found : List (ℕ × ℕ)) → Grew h (with_begins h found)
placed_more h found =
    record {
      more = [];
      dims = sym (append-nil h.dims);
      vars = λ k v e. (
          let there = entry_map (λ p. record p.1 { begin = begin_of_number found p.0 }) (enumerate_from 0 h.vars) k (0 + k, v) (entry_numbered 0 h.vars k v e) in
          (record v { begin = begin_of_number found (0 + k) }, there, refl, refl));
    }

pub records_stay : (header : Header) (extras : List Extra) → (added header extras).records ≡ header.records
records_stay header [] = refl
records_stay header (e ∷ extras) = grind (arith, nat_tests, records_stay (with_extra header e) extras)

-- ---- the lengths stay

same_lengths : (dims more : List Dim) (ids : List ℕ) → AllByRecursion (λ id. nat_le (length dims) id ≡ false) ids
    → map (λ id. length_of (slice_get (dims ++ more) id)) ids ≡ map (λ id. length_of (slice_get dims id)) ids
same_lengths dims more [] h = refl
same_lengths dims more (id ∷ ids) h = grind (arith, nat_tests, get_left, same_lengths dims more ids h.1, length_of)

ids_known : (header : Header) (k : ℕ) (v : Var) → is_sound header ≡ true → slice_get header.vars k ≡ Some v
    → AllByRecursion (λ id. nat_le (length header.dims) id ≡ false) v.dims
ids_known header k v h g =
    grind (arith, common_steps, none_of_test, and_second, both_none, none_before_map, fails_each (λ id. nat_le (length header.dims) id) v.dims, position_from-zero, untested (bad_id header) 0 header.vars k v)

pub redefined_keeps : (old : Header) (extras : List Extra) → is_sound old ≡ true → KeepsVars old (redefined_header old extras)
redefined_keeps old extras sound k v h =
    let header = added old extras in
    let new = redefined_header old extras in
    let grew = grew_on old header new (all_more old extras) (placed_more header (begins_by_number header (length old.vars))) in
    grind (arith, nat_tests, ids_known old k v sound h, same_lengths old.dims grew.more v.dims (ids_known old k v sound h))
