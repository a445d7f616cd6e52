-- Definitions that can all be taken make a header that can be laid out and written.
use Rattle.nc_classic_c.proofs.Words.{◌≡◌, ℕ, suc, ◌+◌, ◌-◌, ◌*◌, ◌/◌, ◌%◌, ◌^◌, ◌<◌, ◌≤◌, List, [], ◌∷◌, ◌++◌, map, drop, length, Bool, true, false, cond, ◌&&◌, ◌||◌, Option, None, refl, sym, ap, subst, ◌∙◌, arith, length-append, nat_le, ◌==◌, slice_get, count_by, AllByRecursion, list_any, div-le_self, div-mul-le_self, mod-eq-sub-div-mul, and_from, or_parts, ltb-false, leb-false, le-leb, le-ltb, length-map, list_any-append, sum_by-cons, each_map, each_passes, each_fails, each_weaker, fails_each, both_none, none_before_map, told_else, equal_true, not_zero, Dim, Var, size_of, is_version, two_record_dims, record_later, bad_id, length_of, most_dims, most_vars, most_dims_of_var, record_limit, counts_are_small, fits_count, is_type, is_writable_dim, is_writable_attr, is_writable_list, small_field, small_count, is_unplaced, has_writable_names, has_writable_parts, kind_of, Unmade, NcvAttDef, NcvDimDef, NcvVarDef, NcvHeaderDef, type_cause, is_record_dim, is_record_id, att_cause, var_cause, first_refused, dim_refusal, att_refusal, atts_refusal, var_refusal, definition_refusal, name_cause, dimension_of, attribute_of, variable_of, header_of, nat_tests, not}
use Rattle.serial_spec.specs.HeaderBytes.{number_of}
use Rattle.serial_spec.specs.HeaderFaults as faults

-- ---- one after another

each_taken : {A : Type 0} (refusal : List A → A → Option Unmade) (P : A → Type 0) → ((before : List A) (x : A) → refusal before x ≡ None → P x)
    → (before xs : List A) → first_refused refusal before xs ≡ None → AllByRecursion P xs
each_taken refusal P f before [] h = tt
each_taken refusal P f before (x ∷ xs) h =
    grind (arith, nat_tests, each_taken refusal P f (before ++ x ∷ []) xs (both_none (refusal before x) (first_refused refusal (before ++ x ∷ []) xs) h).1)

-- there are not too many
few_taken : {A : Type 0} (refusal : List A → A → Option Unmade) (most : ℕ) → ((before : List A) (x : A) → refusal before x ≡ None → length before < most)
    → (before xs : List A) → length before ≤ most → first_refused refusal before xs ≡ None → length before + length xs ≤ most
few_taken refusal most f before [] l h = omega (arith, l)
few_taken refusal most f before (x ∷ xs) l h =
    let b = both_none (refusal before x) (first_refused refusal (before ++ x ∷ []) xs) h in
    grind (arith, nat_tests, b, few_taken refusal most f (before ++ x ∷ []) xs (omega (arith, (length-append before (x ∷ [])), f before x b.0)) b.1, length-append)

-- ---- names and types

name_fits : (version : ℕ) (name : List ℕ) → name_cause name ≡ None → fits_count version (length name) ≡ true
name_fits version name h = grind (arith, nat_tests, told_else, small_count, ltb-false)

kind_number : (n : ℕ) → 1 ≤ n → n ≤ 11 → number_of (kind_of n) ≡ n
kind_number n low high = grind (arith, nat_tests)

type_fits : (version n : ℕ) → type_cause version n ≡ None → is_type version (kind_of n) ≡ true
type_fits version n h = grind (arith, nat_tests, told_else, or_parts, kind_number, not_zero, ltb-false, le-leb)

-- ---- a dimension

record DimTaken (version : ℕ) (before : List NcvDimDef) (d : NcvDimDef) : Type 0 where
  name : name_cause d.name.now ≡ None
  long : nat_le (record_limit version) d.length ≡ false
  one : (is_record_dim d && list_any is_record_dim before) ≡ false
  few : length before < 1024

dim_taken : (version : ℕ) (before : List NcvDimDef) (d : NcvDimDef) → dim_refusal version before d ≡ None → DimTaken version before d
dim_taken version before d h = grind (arith, nat_tests, both_none, none_before_map, told_else, leb-false)

dim_fits : (version : ℕ) (before : List NcvDimDef) (d : NcvDimDef) → dim_refusal version before d ≡ None → is_writable_dim version (dimension_of d) ≡ true
dim_fits version before d h =
    grind (arith, nat_tests, dim_taken version before d h, name_fits version d.name.now (dim_taken version before d h).name, leb-false, small_field, le-leb, and_from)

-- one of them is the record dimension at most
one_more : (c : ℕ) (s t : Bool) → (s && t) ≡ false → c + cond (t || (s || false)) 1 0 ≤ 1 → (cond s 1 0 + c) + cond t 1 0 ≤ 1
one_more c s t e n = grind (arith, nat_tests)

one_record : (version : ℕ) (before xs : List NcvDimDef) → first_refused (dim_refusal version) before xs ≡ None
    → count_by (λ (d : Dim). d.len == 0) (map dimension_of xs) + cond (list_any is_record_dim before) 1 0 ≤ 1
one_record version before [] h = grind (arith, nat_tests)
one_record version before (x ∷ xs) h =
    let b = both_none (dim_refusal version before x) (first_refused (dim_refusal version) (before ++ x ∷ []) xs) h in
    subst (λ (n : ℕ). n + cond (list_any is_record_dim before) 1 0 ≤ 1) (sym (sum_by-cons (λ (d : Dim). cond (d.len == 0) 1 0) (dimension_of x) (map dimension_of xs)))
    (one_more (count_by (λ (d : Dim). d.len == 0) (map dimension_of xs)) (is_record_dim x) (list_any is_record_dim before) (dim_taken version before x b.0).one
    (subst (λ (t : Bool). count_by (λ (d : Dim). d.len == 0) (map dimension_of xs) + cond t 1 0 ≤ 1) (list_any-append is_record_dim before (x ∷ [])) (one_record version (before ++ x ∷ []) xs b.1)))

-- ---- an attribute

record AttTaken (version : ℕ) (before : List NcvAttDef) (a : NcvAttDef) : Type 0 where
  name : name_cause a.name.now ≡ None
  kind : type_cause version a.kind ≡ None
  whole : length a.values.now % size_of (kind_of a.kind) ≤ 0
  few_bytes : length a.values.now ≤ 2 ^ 20
  few : length before < 2 ^ 16

att_taken : (version owner : ℕ) (before : List NcvAttDef) (a : NcvAttDef) → att_refusal version owner before a ≡ None → AttTaken version before a
att_taken version owner before a h =
    let b = both_none (name_cause a.name.now) _ (none_before_map _ (att_cause version before a) h) in
    let c = both_none (type_cause version a.kind) _ b.1 in
    grind (arith, nat_tests, b, c, told_else, ltb-false, leb-false)

att_fits : (version : ℕ) (before : List NcvAttDef) (a : NcvAttDef) → AttTaken version before a → is_writable_attr version (attribute_of a) ≡ true
att_fits version before a t =
    let n = length a.values.now in
    let size = size_of (kind_of a.kind) in
    let less = div-le_self n size in
    and_from _ _
    (and_from _ _ (and_from _ _ (name_fits version a.name.now t.name) (type_fits version a.kind t.kind)) (small_count version (n / size) (omega (arith, t.few_bytes, less))))
    (equal_true n (n / size * size) (exact n (n % size) (n / size * size) (mod-eq-sub-div-mul n size) (div-mul-le_self n size) t.whole))
  where
    exact : (n r x : ℕ) → r ≡ n - x → x ≤ n → r ≤ 0 → n ≡ x
    exact n r x e l z = omega (arith, e, l, z)

-- those of an owner
atts_fit : (version owner : ℕ) (attrs : List NcvAttDef) → atts_refusal version owner attrs ≡ None
    → is_writable_list version (is_writable_attr version) (map attribute_of attrs) ≡ true
atts_fit version owner attrs h =
    let few = few_taken (att_refusal version owner) (2 ^ 16) (λ before a k. (att_taken version owner before a k).few) [] attrs (omega arith) h in
    let each = each_taken (att_refusal version owner) (λ a. is_writable_attr version (attribute_of a) ≡ true)
    (λ before a k. att_fits version before a (att_taken version owner before a k)) [] attrs h in
    and_from _ _ (ap (λ (n : ℕ). fits_count version n) (length-map attrs attribute_of) ∙ small_count version (length attrs) (omega (arith, few)))
    (each_passes (is_writable_attr version) (map attribute_of attrs) (each_map (λ a. is_writable_attr version a ≡ true) attribute_of attrs each))

-- ---- a variable

record VarTaken (version : ℕ) (dims : List NcvDimDef) (before : List NcvVarDef) (v : NcvVarDef) : Type 0 where
  name : name_cause v.name.now ≡ None
  kind : type_cause version v.kind ≡ None
  ids : list_any (λ id. nat_le (length dims) id) v.ids.now ≡ false
  record_first : list_any (is_record_id dims) (drop 1 v.ids.now) ≡ false
  few_dims : length v.ids.now ≤ 32
  few : length before < 8192
  attrs : atts_refusal version (length before) v.attrs.now ≡ None

var_taken : (version : ℕ) (dims : List NcvDimDef) (before : List NcvVarDef) (v : NcvVarDef) → var_refusal version dims before v ≡ None → VarTaken version dims before v
var_taken version dims before v h =
    let both = both_none _ (atts_refusal version (length before) v.attrs.now) h in
    let a = both_none (name_cause v.name.now) _ (none_before_map _ (var_cause version dims before v) both.0) in
    let b = both_none (type_cause version v.kind) _ a.1 in
    grind (arith, nat_tests, both, a, b, told_else, ltb-false, leb-false)

-- the same id in the header
same_id : (dims : List NcvDimDef) (id : ℕ) → (length_of (slice_get (map dimension_of dims) id) == 0) ≡ is_record_id dims id
same_id (d ∷ ds) (suc id) = same_id ds id
same_id _ _ = refl

first_only : (D : NcvHeaderDef) (ids : List ℕ) → list_any (is_record_id D.dims.now) ids ≡ false → list_any (λ id. faults.is_record_id (header_of D) id) ids ≡ false
first_only D ids h = grind (arith, nat_tests, each_fails, each_weaker, same_id, fails_each)

-- ---- the header

taken_dims : (D : NcvHeaderDef) → definition_refusal D ≡ None → first_refused (dim_refusal D.version) [] D.dims.now ≡ None
taken_dims D h = (both_none _ _ h).0

taken_atts : (D : NcvHeaderDef) → definition_refusal D ≡ None → atts_refusal D.version (2 ^ 64 - 1) D.attrs.now ≡ None
taken_atts D h = (both_none _ _ (both_none _ _ h).1).0

taken_vars : (D : NcvHeaderDef) → definition_refusal D ≡ None → first_refused (var_refusal D.version D.dims.now) [] D.vars.now ≡ None
taken_vars D h = (both_none _ _ (both_none _ _ h).1).1

-- each variable keeps what follows from its being taken
each_var : (D : NcvHeaderDef) (P : Var → Type 0) → ((before : List NcvVarDef) (v : NcvVarDef) → VarTaken D.version D.dims.now before v → P (variable_of v))
    → definition_refusal D ≡ None → AllByRecursion P (map variable_of D.vars.now)
each_var D P f h =
    each_map P variable_of D.vars.now
    (each_taken (var_refusal D.version D.dims.now) (λ v. P (variable_of v)) (λ before v k. f before v (var_taken D.version D.dims.now before v k)) [] D.vars.now (taken_vars D h))

few_dims : (D : NcvHeaderDef) → definition_refusal D ≡ None → length D.dims.now ≤ 1024
few_dims D h =
    omega (arith, few_taken (dim_refusal D.version) 1024 (λ before d k. (dim_taken D.version before d k).few) [] D.dims.now (omega arith) (taken_dims D h))

few_vars : (D : NcvHeaderDef) → definition_refusal D ≡ None → length D.vars.now ≤ 8192
few_vars D h =
    omega (arith, few_taken (var_refusal D.version D.dims.now) 8192 (λ before v k. (var_taken D.version D.dims.now before v k).few) [] D.vars.now (omega arith) (taken_vars D h))

counts_small : (D : NcvHeaderDef) → definition_refusal D ≡ None → counts_are_small (header_of D) ≡ true
counts_small D h =
    and_from _ _
    (and_from _ _ (ap (λ (n : ℕ). nat_le n most_dims) (length-map D.dims.now dimension_of) ∙ le-leb (length D.dims.now) 1024 (few_dims D h))
    (ap (λ (n : ℕ). nat_le n most_vars) (length-map D.vars.now variable_of) ∙ le-leb (length D.vars.now) 8192 (few_vars D h)))
    (each_passes (λ v. nat_le (length v.dims) most_dims_of_var) (map variable_of D.vars.now)
    (each_var D (λ v. nat_le (length v.dims) most_dims_of_var ≡ true) (λ before v t. le-leb (length v.ids.now) 32 t.few_dims) h))

pub taken_unplaced : (D : NcvHeaderDef) → is_version D.version ≡ true → definition_refusal D ≡ None → is_unplaced (header_of D) ≡ true
taken_unplaced D right h =
    let count = count_by (λ (d : Dim). d.len == 0) (map dimension_of D.dims.now) in
    let one : count + 0 ≤ 1 = one_record D.version [] D.dims.now (taken_dims D h) in
    let two : two_record_dims (header_of D) ≡ false = le-ltb 1 count (omega (arith, one)) in
    let later : list_any (record_later (header_of D)) (map variable_of D.vars.now) ≡ false =
    each_fails (record_later (header_of D)) (map variable_of D.vars.now)
    (each_var D (λ v. record_later (header_of D) v ≡ false) (λ before v t. first_only D (drop 1 v.ids.now) t.record_first) h) in
    let bad : list_any (bad_id (header_of D)) (map variable_of D.vars.now) ≡ false =
    each_fails (bad_id (header_of D)) (map variable_of D.vars.now)
    (each_var D (λ v. bad_id (header_of D) v ≡ false)
    (λ before v t. ap (λ (n : ℕ). list_any (λ id. nat_le n id) v.ids.now) (length-map D.dims.now dimension_of) ∙ t.ids) h) in
    and_from _ _ (and_from _ _ (and_from _ _ (and_from _ _ (and_from _ _ right (counts_small D h)) (ap not two)) (ap not later)) (ap not bad)) refl

pub taken_writable : (D : NcvHeaderDef) → definition_refusal D ≡ None → has_writable_parts (header_of D) ≡ true
taken_writable D h =
    let dims = and_from _ _
    (ap (λ (n : ℕ). fits_count D.version n) (length-map D.dims.now dimension_of) ∙ small_count D.version (length D.dims.now) (let n = few_dims D h in omega (arith, n)))
    (each_passes (is_writable_dim D.version) (map dimension_of D.dims.now)
    (each_map (λ d. is_writable_dim D.version d ≡ true) dimension_of D.dims.now
    (each_taken (dim_refusal D.version) (λ d. is_writable_dim D.version (dimension_of d) ≡ true) (λ before d k. dim_fits D.version before d k) [] D.dims.now (taken_dims D h)))) in
    let vars = each_passes (has_writable_names (header_of D)) (map variable_of D.vars.now)
    (each_var D (λ v. has_writable_names (header_of D) v ≡ true)
    (λ before v t.
    and_from _ _ (and_from _ _ (name_fits D.version v.name.now t.name) (atts_fit D.version (length before) v.attrs.now t.attrs)) (type_fits D.version v.kind t.kind)) h) in
    and_from _ _ (and_from _ _ dims (atts_fit D.version (2 ^ 64 - 1) D.attrs.now (taken_atts D h))) vars
