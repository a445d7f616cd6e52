-- The header with its new begins, and why there is none.
use Rattle.redef_mover.proofs.Words.{◌≡◌, ℕ, zero, suc, ◌+◌, ◌-◌, ◌*◌, ◌^◌, List, [], ◌∷◌, length, take, Bool, false, cond, Option, Some, None, refl, sym, ap, ◌∙◌, arith, sum_by, find, option_map, slice_get, nat_lt, nat_le, not, ◌==◌, if◌then◌else◌, prefix_len, option_or, nat_tests, sum_by-cons, found_passes, found_fails, none_before_map, rebegun_len, Header, Var, Extra, RedefErr, file_limit, keeps_bound, is_record, slab, vsize, record_share, record_size, is_large_var, size_fault, is_far_begin, is_bad_begin, begin_of_number, with_begins, begins_by_number, extras_fault, added, redefined_header, redefined_fault, capped, capped_pairs, ◌&&◌, ◌||◌}
use Rattle.nc_base.specs.declared.errors.LayoutErr.TheVariants as layout
use Rattle.nc_base.specs.declared.errors.RedefErr.TheVariants as redef
use Rattle.serial_spec.specs.Layout.{record_slabs}
use Rattle.redef_laws.proofs.RebegunLaws.{rebegun, rebegun_long, rebegun_slabs}

-- ---- what does not look at the begins

begun_sum_front : (f : Var → ℕ) → ((v : Var) (b : ℕ) → f (record v { begin = b }) ≡ f v) → (found : List (ℕ × ℕ)) (n : ℕ) (vars : List Var) (k : ℕ)
    → sum_by f (take k (rebegun found n vars)) ≡ sum_by f (take k vars)
begun_sum_front f same found n [] zero = refl
begun_sum_front f same found n [] (suc k) = refl
begun_sum_front f same found n (v ∷ vars) zero = refl
begun_sum_front f same found n (v ∷ vars) (suc k) = grind (arith, nat_tests, begun_sum_front f same found (n + 1) vars k, sum_by-cons)

begun_large : (header : Header) (found : List (ℕ × ℕ)) (n : ℕ) (vars : List Var)
    → prefix_len (λ v. not (is_large_var header v)) (rebegun found n vars) ≡ prefix_len (λ v. not (is_large_var header v)) vars
begun_large header found n [] = refl
begun_large header found n (v ∷ vars) = ap (λ (m : ℕ). cond (not (is_large_var header v)) (1 + m) 0) (begun_large header found (n + 1) vars)

pub size_kept : (header : Header) (found : List (ℕ × ℕ)) → size_fault (with_begins header found) ≡ size_fault header
size_kept header found = grind (arith, nat_tests, begun_large header found 0 header.vars, rebegun_long found 0 header.vars, rebegun_len header found)

-- ---- whether a begin is out of range, by its number alone

-- of a variable at this begin, where the variables before it add so much to a record, and the record variables have these slabs
unfoldable bad_by : Header → Var → ℕ → ℕ → List ℕ → Bool
bad_by header v begin before slabs =
    not (not (header.version == 1 && nat_le (2 ^ 31) begin)
    && (nat_lt (vsize header v) file_limit && nat_lt (begin + vsize header v) file_limit
    && (not (is_record header v)
    || (nat_lt (before + vsize header v) file_limit
    && (header.records == 0 || nat_lt (begin + (header.records - 1) * record_size slabs + (if length slabs == 1 then slab header v else vsize header v)) file_limit)))))

unfoldable bad_at : Header → ℕ → Var → ℕ → Bool
bad_at header k v begin = bad_by header v begin (sum_by (λ w. record_share header w) (take k header.vars)) (record_slabs header)

get_begun : (found : List (ℕ × ℕ)) (n : ℕ) (vars : List Var) (k : ℕ)
    → slice_get (rebegun found n vars) k ≡ option_map (λ (v : Var). record v { begin = begin_of_number found (n + k) }) (slice_get vars k)
get_begun found n [] k = refl
get_begun found n (v ∷ vars) zero = ap (λ (m : ℕ). Some (record v { begin = begin_of_number found m })) (let e : n ≡ n + 0 = omega arith in e)
get_begun found n (v ∷ vars) (suc k) = grind (arith, nat_tests, get_begun found (n + 1) vars k)

unfoldable bad_of : Header → List (ℕ × ℕ) → ℕ → Option Var → Bool
bad_of header found k None = false
bad_of header found k (Some v) = bad_at header k v (begin_of_number found k)

no_var : (header : Header) (found : List (ℕ × ℕ)) (k : ℕ) → bad_of header found k None ≡ false
unfolding bad_of
no_var header found k = refl

one_var : (header : Header) (found : List (ℕ × ℕ)) (k : ℕ) (v : Var)
    → bad_of header found k (Some v) ≡ bad_by header v (begin_of_number found k) (sum_by (λ w. record_share header w) (take k header.vars)) (record_slabs header)
unfolding bad_of bad_at
one_var header found k v = refl

bad_is : (header : Header) (found : List (ℕ × ℕ)) (b : ℕ × ℕ) → is_bad_begin (with_begins header found) b ≡ bad_of header found b.0 (slice_get header.vars b.0)
unfolding bad_of bad_at bad_by
bad_is header found b =
    ap (λ (o : Option Var). elim o [
      | None ↦ false
      | Some v ↦ not (not (is_far_begin (with_begins header found) v) && keeps_bound (with_begins header found) (sum_by (λ w. record_share (with_begins header found) w) (take b.0 (with_begins header found).vars)) v)
    ]) (get_begun found 0 header.vars b.0)
    ∙ by_var (slice_get header.vars b.0)
  where
    by_var : (o : Option Var)
        → elim (option_map (λ (v : Var). record v { begin = begin_of_number found (0 + b.0) }) o) [
          | None ↦ false
          | Some v ↦ not (not (is_far_begin (with_begins header found) v) && keeps_bound (with_begins header found) (sum_by (λ w. record_share (with_begins header found) w) (take b.0 (with_begins header found).vars)) v)
        ] ≡ bad_of header found b.0 o
    by_var None = refl
    by_var (Some v) = grind (arith, nat_tests, begun_sum_front, rebegun_slabs header found 0 header.vars)

-- ---- capped begins

sum_capped : (n m : ℕ) → nat_lt (capped n + m) (2 ^ 62) ≡ nat_lt (n + m) (2 ^ 62)
sum_capped n m = grind (arith, nat_tests)

two_capped : (n m k : ℕ) → nat_lt (capped n + m + k) (2 ^ 62) ≡ nat_lt (n + m + k) (2 ^ 62)
two_capped n m k = grind (arith, nat_tests, sum_capped n (m + k))

bad_capped : (header : Header) (v : Var) (begin before : ℕ) (slabs : List ℕ) → bad_by header v (capped begin) before slabs ≡ bad_by header v begin before slabs
unfolding bad_by
bad_capped header v begin before slabs = grind (arith, nat_tests, sum_capped begin (vsize header v), two_capped)

number_capped : (found : List (ℕ × ℕ)) (k : ℕ) → begin_of_number (capped_pairs found) k ≡ capped (begin_of_number found k)
number_capped [] k = refl
number_capped (b ∷ found) k = grind (arith, nat_tests, number_capped found k)

same_bad : (header : Header) (found : List (ℕ × ℕ)) (b : ℕ × ℕ) → is_bad_begin (with_begins header (capped_pairs found)) (b.0, capped b.1) ≡ is_bad_begin (with_begins header found) b
same_bad header found b =
    bad_is header (capped_pairs found) (b.0, capped b.1) ∙ by_var (slice_get header.vars b.0) ∙ sym (bad_is header found b)
  where
    by_var : (o : Option Var) → bad_of header (capped_pairs found) b.0 o ≡ bad_of header found b.0 o
    by_var None = no_var header (capped_pairs found) b.0 ∙ sym (no_var header found b.0)
    by_var (Some v) = grind (arith, nat_tests, one_var, number_capped, bad_capped, header.vars, bad_by, take, record_slabs)

-- ---- the first that is out of range

pub same_first : (header : Header) (all found : List (ℕ × ℕ)) (f : ℕ → RedefErr)
    → option_map (λ (b : ℕ × ℕ). f b.0) (find (is_bad_begin (with_begins header (capped_pairs all))) (capped_pairs found))
    ≡ option_map (λ (b : ℕ × ℕ). f b.0) (find (is_bad_begin (with_begins header all)) found)
same_first header all [] f = refl
same_first header all (b ∷ found) f = grind (arith, nat_tests, same_bad header all b, same_first header all found f)

pub none_first : (header : Header) (found : List (ℕ × ℕ)) → find (is_bad_begin (with_begins header (capped_pairs found))) (capped_pairs found) ≡ None
    → find (is_bad_begin (with_begins header found)) found ≡ None
none_first header found h =
    none_before_map (λ (b : ℕ × ℕ). redef.Taken b.0) (find (is_bad_begin (with_begins header found)) found)
    (sym (same_first header found found (λ k. redef.Taken k)) ∙ ap (λ (o : Option (ℕ × ℕ)). option_map (λ (b : ℕ × ℕ). redef.Taken b.0) o) h)

good_small : (header : Header) (v : Var) (begin before : ℕ) (slabs : List ℕ) → bad_by header v begin before slabs ≡ false → capped begin ≡ begin
unfolding bad_by
good_small header v begin before slabs h = grind (arith, nat_tests)

-- where no begin is out of range, each is below 2^62
number_same : (header : Header) (found : List (ℕ × ℕ)) (k : ℕ) (v : Var) → find (is_bad_begin (with_begins header found)) found ≡ None → slice_get header.vars k ≡ Some v
    → begin_of_number (capped_pairs found) k ≡ begin_of_number found k
number_same header found k v none there =
    grind (arith, nat_tests, number_capped found k, found_passes, found_fails, bad_is header found, good_small header v, one_var header found k v)

begun_same : (found : List (ℕ × ℕ)) (n : ℕ) (vars : List Var) → ((j : ℕ) (v : Var) → slice_get vars j ≡ Some v → begin_of_number (capped_pairs found) (n + j) ≡ begin_of_number found (n + j))
    → rebegun (capped_pairs found) n vars ≡ rebegun found n vars
begun_same found n [] h = refl
begun_same found n (v ∷ vars) h =
    let e : n ≡ n + 0 = omega arith in
    let here = ap (λ (m : ℕ). begin_of_number (capped_pairs found) m) e ∙ h 0 v refl ∙ ap (λ (m : ℕ). begin_of_number found m) (sym e) in
    ap (λ (m : ℕ). record v { begin = m } ∷ rebegun (capped_pairs found) (n + 1) vars) here
    ∙ ap (λ ws. record v { begin = begin_of_number found n } ∷ ws)
    (begun_same found (n + 1) vars (λ j w g.
    let f : n + 1 + j ≡ n + suc j = omega arith in
    ap (λ (m : ℕ). begin_of_number (capped_pairs found) m) f ∙ h (suc j) w g ∙ ap (λ (m : ℕ). begin_of_number found m) (sym f)))

pub capped_none : (header : Header) (found : List (ℕ × ℕ)) → find (is_bad_begin (with_begins header found)) found ≡ None → with_begins header (capped_pairs found) ≡ with_begins header found
capped_none header found none =
    ap (λ vars. record header { vars = vars })
    (begun_same found 0 header.vars (λ j v there.
    let e : j ≡ 0 + j = omega arith in
    ap (λ (m : ℕ). begin_of_number (capped_pairs found) m) (sym e) ∙ number_same header found j v none there ∙ ap (λ (m : ℕ). begin_of_number found m) e))

-- ---- the fault of a whole redefinition

abbrev layout_part : Header → Header → ℕ → Option RedefErr
layout_part made header n =
    option_map (λ e. redef.Layout e)
    (option_or (size_fault made) (option_map (λ (b : ℕ × ℕ). layout.BeginRange b.0) (find (is_bad_begin made) (begins_by_number header n))))

abbrev fault_by : Option RedefErr → Option RedefErr → Option RedefErr
fault_by o other = elim o [ Some f ↦ Some f | None ↦ other ]

past_extras : (old : Header) (extras : List Extra) → extras_fault old extras ≡ None
    → redefined_fault old extras ≡ layout_part (redefined_header old extras) (added old extras) (length old.vars)
past_extras old extras h = ap (λ (o : Option RedefErr). fault_by o (layout_part (redefined_header old extras) (added old extras) (length old.vars))) h

pub fault_of_size : (old new : Header) (extras : List Extra) (e : RedefErr) → extras_fault old extras ≡ None → new ≡ added old extras → Some e ≡ option_map (λ x. redef.Layout x) (size_fault new)
    → redefined_fault old extras ≡ Some e
fault_of_size old new extras e none made told =
    grind (arith, nat_tests, past_extras old extras none, size_kept (added old extras) (begins_by_number (added old extras) (length old.vars)))

past_sizes : (old new : Header) (extras : List Extra) → extras_fault old extras ≡ None → new ≡ added old extras → option_map (λ x. redef.Layout x) (size_fault new) ≡ None
    → redefined_fault old extras
    ≡ option_map (λ (b : ℕ × ℕ). redef.Layout (layout.BeginRange b.0)) (find (is_bad_begin (redefined_header old extras)) (begins_by_number (added old extras) (length old.vars)))
past_sizes old new extras none made small =
    grind (arith, nat_tests, past_extras old extras none, size_kept (added old extras) (begins_by_number (added old extras) (length old.vars)), none_before_map)

module _ (old new left : Header) (extras : List Extra) (places : List (ℕ × ℕ)) (none : extras_fault old extras ≡ None) (made : new ≡ added old extras)
    (small : option_map (λ x. redef.Layout x) (size_fault new) ≡ None) (placed : places ≡ capped_pairs (begins_by_number new (length old.vars))) (begun : left ≡ with_begins new places) where
  same : places ≡ capped_pairs (begins_by_number (added old extras) (length old.vars))
  same = placed ∙ ap (λ (h : Header). capped_pairs (begins_by_number h (length old.vars))) made

  left_is : left ≡ with_begins (added old extras) (capped_pairs (begins_by_number (added old extras) (length old.vars)))
  left_is = begun ∙ ap (λ (h : Header). with_begins h places) made ∙ ap (λ ps. with_begins (added old extras) ps) same

  pub fault_of_begin : (e : RedefErr) → option_map (λ (b : ℕ × ℕ). redef.Layout (layout.BeginRange b.0)) (find (is_bad_begin left) places) ≡ Some e → redefined_fault old extras ≡ Some e
  fault_of_begin e told =
      let header = added old extras in
      let found = begins_by_number header (length old.vars) in
      past_sizes old new extras none made small
      ∙ sym (same_first header found found (λ k. redef.Layout (layout.BeginRange k)))
      ∙ (λ i. option_map (λ (b : ℕ × ℕ). redef.Layout (layout.BeginRange b.0)) (find (is_bad_begin (sym left_is i)) (sym same i))) ∙ told

  pub no_fault : find (is_bad_begin left) places ≡ None → (redefined_fault old extras ≡ None) × (left ≡ redefined_header old extras)
  no_fault good =
      let header = added old extras in
      grind (arith, nat_tests, none_first header (begins_by_number header (length old.vars)), left_is, same, past_sizes old new extras none made small, capped_none header (begins_by_number header (length old.vars)))

pub length_kept : (header left : Header) (found : List (ℕ × ℕ)) → left ≡ with_begins header found → length left.vars ≡ length header.vars
length_kept header left found e = ap (λ (h : Header). length h.vars) e ∙ rebegun_long found 0 header.vars
