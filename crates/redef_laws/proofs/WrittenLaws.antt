-- The header of an accepted redefinition is sound, and each of its numbers fits its field.
use Rattle.redef_laws.proofs.Words.{small_field, ◌≡◌, ℕ, suc, ◌^◌, ◌≤◌, List, [], ◌∷◌, length, take, drop, Bool, true, false, Some, None, refl, sym, subst, arith, nat_le, ◌==◌, find, position, slice_get, sum_by, AllByRecursion, nat_tests, length-filter, and_from, not-true, not-false, le-leb, ltb-true, ltb-false, leb-false, past_none, small_count, vsize_fits, each_passes, each_fails, each_weaker, each_at, and_first, and_second, both_none, none_before_map, untold, Header, Var, Extra, record_share, sharing, attribute, list_of, header_len, record_later, is_record_id, bad_id, measure, keeps_bound, is_sound, counts_are_small, is_writable, is_writable_dim, is_writable_list, is_writable_var, added, extras_fault, begins_by_number, redefined_header, redefined_fault, is_large_var, is_far_begin, is_bad_begin, IsApplied, neither_some}
use Rattle.redef_laws.proofs.FieldLaws.{each_both}
use Rattle.redef_laws.proofs.GrownLaws.{IsFitVar, IsFit, is_record_dim, all_more, all_same, HasVersionOf}
use Rattle.redef_laws.proofs.ShortLaws.{is_short, attrs_written}
use Rattle.redef_laws.proofs.FitLaws.{IsChecked, checked, none_found, finds_none, IsOpened, opened_old}
use Rattle.redef_laws.proofs.RebegunLaws.{rebegun_each, rebegun_long}
use Rattle.redef_laws.proofs.ApartLaws.{placed, redefined_apart}

-- ---- no fault

pub record HasNoFault (old : Header) (extras : List Extra) : Type 0 where
  pub accepted : extras_fault old extras ≡ None
  pub sizes : position (is_large_var (redefined_header old extras)) (redefined_header old extras).vars ≡ None
  pub short : header_len (redefined_header old extras) ≤ 2 ^ 20
  pub begins : find (is_bad_begin (redefined_header old extras)) (begins_by_number (added old extras) (length old.vars)) ≡ None

pub no_fault : (old : Header) (extras : List Extra) → redefined_fault old extras ≡ None → HasNoFault old extras
no_fault old extras h = grind (arith, nat_tests, both_none, none_before_map, ltb-false, untold)

-- ---- each variable keeps its bound

-- what is not found fails the test
pub found_fails : {A : Type 0} (bad p : A → Bool) (xs : List A) (x : A) → find bad xs ≡ None → find p xs ≡ Some x → bad x ≡ false
found_fails bad p [] x h g = absurd cc
found_fails {A} bad p (y ∷ xs) x h g = grind (arith, nat_tests, found_fails bad p xs x)

-- what is said of a variable's begin and end
pub record IsBound (header : Header) (k : ℕ) (v : Var) : Type 0 where
  pub near : is_far_begin header v ≡ false
  pub keeps : keeps_bound header (sum_by (λ w. record_share header w) (take k header.vars)) v ≡ true

bound_by : (header : Header) (k b : ℕ) (v : Var) → slice_get header.vars k ≡ Some v → is_bad_begin header (k, b) ≡ false → IsBound header k v
bound_by header k b v g h = grind (arith, nat_tests, not-false, not-true, and_first, and_second)

each_bound : (old : Header) (extras : List Extra) → HasNoFault old extras → (k : ℕ) (x : Var) → slice_get (redefined_header old extras).vars k ≡ Some x
    → IsBound (redefined_header old extras) k x
each_bound old extras none k x g =
    let header = added old extras in
    let n = length old.vars in
    let p = placed header n k x g in
    bound_by (redefined_header old extras) k x.begin x g
    (found_fails (is_bad_begin (redefined_header old extras)) (λ b. b.0 == k) (begins_by_number header n) (k, x.begin) none.begins p.1.found)

measured : (header : Header) → ((k : ℕ) (v : Var) → slice_get header.vars k ≡ Some v → IsBound header k v) → measure header ≡ None
measured header h =
    past_none header header.vars 0 0 (λ k v g. grind (arith, nat_tests, (h k v g).keeps))

-- ---- the header is sound

each_from : {A : Type 0} (P : A → Type 0) (xs : List A) → ((k : ℕ) (x : A) → slice_get xs k ≡ Some x → P x) → AllByRecursion P xs
each_from P [] h = tt
each_from P (x ∷ xs) h = (h 0 x refl, each_from P xs (λ k y g. h (suc k) y g))

-- all that is known of a new header
pub record IsKnown (old new : Header) : Type 0 where
  pub opened : IsOpened old
  pub same : HasVersionOf old new
  pub fit : IsFit new
  pub short : header_len new ≤ 2 ^ 20
  pub sizes : position (is_large_var new) new.vars ≡ None
  pub bound : (k : ℕ) (v : Var) → slice_get new.vars k ≡ Some v → IsBound new k v
  pub apart : sharing new (header_len new) ≡ None

pub known : (old new : Header) (extras : List Extra) → IsApplied old extras new → IsKnown old new
known old new extras applied =
    let opened = opened_old old applied.redefinable in
    let none = no_fault old extras applied.faultless in
    let fit = all_more old 0 extras opened.fit none.accepted applied.lawful applied.whole in
    let whole : IsKnown old (redefined_header old extras) = grind (arith, nat_tests, all_same old extras, rebegun_long, rebegun_each, each_bound old extras none, redefined_apart old extras opened.sound fit, none.short, none.sizes) in
    subst (λ (h : Header). IsKnown old h) (sym applied.made) whole

checks : (old new : Header) → IsKnown old new → IsChecked new
checks old new k =
    let c = checked old k.opened.sound in
    let fit = k.fit in
    record {
      one_record = grind (arith, nat_tests, length-filter is_record_dim new.dims, fit.one_record);
      first = finds_none (record_later new) new.vars (each_weaker _ _ (λ v f. each_fails (λ id. is_record_id new id) (drop 1 v.dims) f.later) new.vars fit.vars);
      ids =
          finds_none (bad_id new) new.vars
          (each_weaker _ _ (λ v f. each_fails (λ id. nat_le (length new.dims) id) v.dims (each_weaker _ _ (λ id l. grind (arith, nat_tests)) v.dims f.known)) new.vars fit.vars);
      counted = grind (arith, nat_tests, k.same.records, k.same.version, c.counted);
      measured = measured new k.bound;
      few = grind (arith, nat_tests, k.same.records, k.same.version, c.few);
      apart = k.apart;
    }

counts : (header : Header) → IsFit header → counts_are_small header ≡ true
counts header fit = grind (arith, nat_tests, and_from, le-leb, each_passes, each_weaker)

pub sound : (old new : Header) → IsKnown old new → is_sound new ≡ true
sound old new k = grind (arith, nat_tests, and_from, counts, le-leb, neither_some, checks)

-- ---- each number fits its field

dims_written : (old new : Header) → IsKnown old new → is_writable_list new.version (is_writable_dim new.version) new.dims ≡ true
dims_written old new k =
    grind (
      arith,
      nat_tests,
      small_count new.version (length new.dims),
      each_passes (is_writable_dim new.version) new.dims,
      each_both,
      is_short new k.short,
      k.fit.few_dims,
      k.fit.lengths,
    )

var_written : (header : Header) (k : ℕ) (v : Var) → IsFitVar header.version header.dims v → length header.dims ≤ 1024 → length v.name ≤ 2 ^ 20
    → length (list_of header.version 12 (λ a. attribute header.version a) v.attrs) ≤ 2 ^ 20 → is_large_var header v ≡ false → IsBound header k v → is_writable_var header v ≡ true
var_written header k v fit few named attrs stored bound =
    grind (arith, nat_tests, ltb-true, and_second, and_first, and_from, small_count, each_passes, each_weaker, attrs_written, small_field, leb-false, vsize_fits)

vars_written : (old new : Header) → IsKnown old new → is_writable_list new.version (is_writable_var new) new.vars ≡ true
vars_written old new k =
    let short = is_short new k.short in
    let each : AllByRecursion (λ v. is_writable_var new v ≡ true) new.vars = each_from _ new.vars (λ i v g.
    var_written new i v (each_at (IsFitVar new.version new.dims) new.vars i v k.fit.vars g) k.fit.few_dims
    (each_at (λ (w : Var). length w.name ≤ 2 ^ 20) new.vars i v short.names g)
    (each_at (λ (w : Var). length (list_of new.version 12 (λ a. attribute new.version a) w.attrs) ≤ 2 ^ 20) new.vars i v short.var_attrs g)
    (each_at (λ w. is_large_var new w ≡ false) new.vars i v (none_found (is_large_var new) new.vars k.sizes) g) (k.bound i v g)) in
    grind (arith, nat_tests, and_from, small_count, k.fit.few_vars, each_passes (is_writable_var new) new.vars each)

pub written : (old new : Header) (extras : List Extra) → IsApplied old extras new → is_writable new ≡ true
written old new extras applied =
    grind (
      arith,
      nat_tests,
      known old new extras applied,
      sound old new (known old new extras applied),
      dims_written old new (known old new extras applied),
      is_short new (known old new extras applied).short,
      vars_written old new (known old new extras applied),
      and_from,
      attrs_written,
    )
