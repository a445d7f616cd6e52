-- A header that can be redefined has the facts that extras keep, and so has the new header.
use Rattle.redef_laws.proofs.Words.{◌≡◌, ℕ, ◌<◌, List, [], ◌∷◌, length, drop, Bool, true, false, None, refl, arith, nat_le, ◌==◌, count_by, position, list_all, AllByRecursion, length-filter, or_parts, not-false, leb-true, ltb-false, leb-false, eqb-true, passes_each, fails_each, each_weaker, and_first, and_second, both_none, none_of_test, none_before_map, Header, Dim, Attr, Var, most_dims, most_dims_of_var, record_limit, sharing, is_version, header_len, all_ones, two_record_dims, record_later, is_record_id, bad_id, measure, is_sound, counts_are_small, fits_count, is_writable_dim, is_writable_attr, is_writable_list, is_redefinable, is_redefinable_var, no_fault, nat_tests}
use Rattle.redef_laws.proofs.GrownLaws.{IsTyped, HasFitLength, IsFitVar, IsFit, is_record_dim}

-- ---- the checks of a sound header

-- what is found wrong with no sound header, but for bytes that are shared
pub record IsChecked (header : Header) : Type 0 where
  pub one_record : two_record_dims header ≡ false
  pub first : position (record_later header) header.vars ≡ None
  pub ids : position (bad_id header) header.vars ≡ None
  pub counted : (header.records == all_ones header.version) ≡ false
  pub measured : measure header ≡ None
  pub few : nat_le (record_limit header.version) header.records ≡ false
  pub apart : sharing header (header_len header) ≡ None

pub checked : (header : Header) → is_sound header ≡ true → IsChecked header
checked header h = grind (arith, nat_tests, none_of_test, and_second, both_none, or_parts, no_fault, none_before_map, not-false)

-- ---- searches that find nothing

pub none_found : {A : Type 0} (test : A → Bool) (xs : List A) → position test xs ≡ None → AllByRecursion (λ x. test x ≡ false) xs
none_found test [] h = tt
none_found test (x ∷ xs) h = grind (arith, nat_tests, none_found test xs)

pub finds_none : {A : Type 0} (test : A → Bool) (xs : List A) → AllByRecursion (λ x. test x ≡ false) xs → position test xs ≡ None
finds_none test [] h = refl
finds_none test (x ∷ xs) h = grind (arith, nat_tests, finds_none test xs h.1, h.0)

-- ---- the old header

pub record IsOpened (old : Header) : Type 0 where
  pub sound : is_sound old ≡ true
  pub fit : IsFit old

fit_attrs : (version : ℕ) (attrs : List Attr) → is_writable_list version (is_writable_attr version) attrs ≡ true → AllByRecursion (IsTyped version) attrs
fit_attrs version attrs h =
    grind (arith, nat_tests, each_weaker, and_first, eqb-true, passes_each (is_writable_attr version) attrs, and_second (fits_count version (length attrs)))

-- of a variable, what the tests of its number of ids, of the ids, of the record dimension and of its parts tell
fit_var : (header : Header) (v : Var) → nat_le (length v.dims) most_dims_of_var ≡ true → bad_id header v ≡ false → record_later header v ≡ false → is_redefinable_var header v ≡ true
    → IsFitVar header.version header.dims v
fit_var header v few ids later parts =
    let known = fails_each (λ id. nat_le (length header.dims) id) v.dims ids in
    let below = each_weaker (λ id. nat_le (length header.dims) id ≡ false) (λ id. id < length header.dims) (λ id e. leb-false (length header.dims) id e) v.dims known in
    grind (arith, nat_tests, below, fails_each (λ id. is_record_id header id) (drop 1 v.dims) later, and_first, and_second, fit_attrs)

told_vars : (header : Header) (vs : List Var) → AllByRecursion (λ (v : Var). nat_le (length v.dims) most_dims_of_var ≡ true) vs → AllByRecursion (λ v. bad_id header v ≡ false) vs
    → AllByRecursion (λ v. record_later header v ≡ false) vs → AllByRecursion (λ v. is_redefinable_var header v ≡ true) vs
    → AllByRecursion (IsFitVar header.version header.dims) vs
told_vars header [] a b c d = tt
told_vars header (v ∷ vs) a b c d = grind (arith, nat_tests, told_vars header vs a.1 b.1 c.1 d.1, fit_var)

pub opened_old : (old : Header) → is_redefinable old ≡ true → IsOpened old
opened_old old h =
    let h4 = and_first _ _ h in
    let h3 = and_first _ _ h4 in
    let h2 = and_first _ _ h3 in
    let sound = and_first (is_sound old) _ h2 in
    let c = checked old sound in
    let counts = and_second (is_version old.version) (counts_are_small old) (and_first _ _ (and_first _ _ sound)) in
    let limits = and_first _ (list_all (λ (v : Var). nat_le (length v.dims) most_dims_of_var) old.vars) counts in
    let dims : AllByRecursion (λ d. is_writable_dim old.version d ≡ true) old.dims = passes_each (is_writable_dim old.version) old.dims (and_second (fits_count old.version (length old.dims)) _ (and_second _ _ h3)) in
    let one = ltb-false 1 (count_by (λ (d : Dim). d.len == 0) old.dims) c.one_record in
    let same = length-filter is_record_dim old.dims in
    record {
      sound = sound;
      fit = record {
        few_dims = leb-true (length old.dims) 1024 (and_first (nat_le (length old.dims) most_dims) _ limits);
        few_vars = leb-true (length old.vars) 8192 (and_second (nat_le (length old.dims) most_dims) _ limits);
        lengths = each_weaker (λ d. is_writable_dim old.version d ≡ true) (HasFitLength old.version) (λ d e. grind (arith, nat_tests, and_second, and_first, leb-true)) old.dims dims;
        one_record = omega (arith, one, same);
        attrs = fit_attrs old.version old.attrs (and_second _ _ h4);
        vars =
            told_vars old old.vars (passes_each (λ (v : Var). nat_le (length v.dims) most_dims_of_var) old.vars (and_second _ _ counts))
            (none_found (bad_id old) old.vars c.ids) (none_found (record_later old) old.vars c.first)
            (passes_each (is_redefinable_var old) old.vars (and_second (fits_count old.version (length old.vars)) _ (and_second _ _ h)));
      };
    }
