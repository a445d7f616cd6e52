-- Dimensions, variables and attributes as they are defined, line by line.
use Rattle.script_laws.proofs.Words.{◌≡◌, ◌∙◌, ℕ, suc, ◌+◌, ◌^◌, ◌<◌, ◌≤◌, List, [], ◌∷◌, ◌++◌, length, drop, Bool, true, false, ◌&&◌, Option, Some, None, IfOk, IfSome, refl, ap, arith, nat_le, ◌==◌, count_by, sum, map, slice_get, slice_set, position, bytes_eq, length-append, length-set, AllByRecursion, list_any, length-map, sum_by-cons, and_from, position_below, get_left, each_push, each_weaker, each_later, each_at, fails_each, ScriptKind, NcType, Dim, Attr, Var, Values, most_dims, most_dims_of_var, most_vars, record_limit, most_values, attr_values, count_of, fits_count, is_type, is_writable_dim, is_writable_attr, Word, is_name, or_fault, name_of_text, ended, values, type_of, is_among, length_of_text, is_unlimited, dim_names, dim_line, var_head, name_list, dim_ids, is_record_dim, var_names, shape, var_line, Title, attr_of, attribute_name, attribute, with_attr_at, nat_tests, ltb-false, leb-false, eq-eqb, common_steps}
use Rattle.nc_base.specs.declared.errors.ScriptKind.TheVariants as kind
use Rattle.nc_base.specs.declared.errors.LimitName.TheVariants as limit
use Rattle.script_laws.proofs.ListLaws.{all_both, all_set, count_more, sum_set, sum_more, found_all}
use Rattle.script_laws.proofs.StepLaws.{first_then, then_with, word_then, unless}
use Rattle.script_laws.proofs.WordLaws.{name_short, name_read, named, type_read, length_read, small_fits}
use Rattle.script_laws.proofs.ValueLaws.{FitsValues, values_read, bytes_long}

-- ---- a dimension

pub record FitsDim (version : ℕ) (d : Dim) : Type 0 where
  pub writable : is_writable_dim version d ≡ true
  pub short : d.len < record_limit version

pub record NewDim (version : ℕ) (dims : List Dim) (d : Dim) : Type 0 where
  pub fits : FitsDim version d
  pub room : length dims < most_dims
  pub once : (is_unlimited d && list_any is_unlimited dims) ≡ false

dim_fits : (version : ℕ) (n : List ℕ) (len : ℕ) → is_name n ≡ true → len < record_limit version → FitsDim version (record { name = n; len = len })
dim_fits version n len good short = grind (arith, nat_tests, small_fits, name_short)

pub dim_read : (version : ℕ) (dims : List Dim) (ws : List Word) → IfOk (dim_line version dims ws) (NewDim version dims)
dim_read version dims ws =
    word_then name_of_text kind.BadName ws _ _ (λ n. is_name n ≡ true) name_read (λ n good.
    unless (is_among n.0 (dim_names dims)) kind.TwiceNamed _ _ (λ _. unless (nat_le most_dims (length dims)) (kind.Limit limit.Dims) _ _ (λ room.
    word_then (length_of_text version) kind.BadNumber n.1 _ _ (λ m. m < record_limit version) (length_read version) (λ len short.
    unless (len.0 == 0 && list_any is_unlimited dims) kind.BadShape _ _ (λ once.
    first_then (ended len.1) _ _ (λ _ _. record { fits = dim_fits version n.0 len.0 good short; room = leb-false most_dims (length dims) room; once = once }))))))

-- ---- one unlimited dimension at most

count_none : {A : Type 0} (p : A → Bool) (xs : List A) → list_any p xs ≡ false → count_by p xs ≡ 0
count_none p [] h = refl
count_none p (x ∷ xs) h = grind (arith, nat_tests, count_none p xs, count_by p xs, sum_by-cons)

pub one_more : (dims : List Dim) (d : Dim) → count_by is_unlimited dims ≤ 1 → (is_unlimited d && list_any is_unlimited dims) ≡ false → count_by is_unlimited (dims ++ d ∷ []) ≤ 1
one_more dims d h once = grind (arith, nat_tests, count_by is_unlimited dims, count_more is_unlimited dims d, count_none)

-- ---- an attribute

abbrev pub FitsAttr : ℕ → Attr → Type 0
FitsAttr version a = is_writable_attr version a ≡ true

attr_fits : (version : ℕ) (n : List ℕ) (t : NcType) (vs : Values) → is_name n ≡ true → is_type version t ≡ true → count_of vs ≤ 2 ^ 24 → FitsAttr version (attr_of n t vs)
attr_fits version n t vs good typed few = grind (arith, nat_tests, small_fits, name_short, eq-eqb, bytes_long, and_from)

title_named : (titles : List Title) (owner : List ℕ) (ws : List Word) → IfOk (attribute_name titles owner ws) (λ r. is_name r.0 ≡ true)
title_named titles owner ws = grind (arith, nat_tests, named ws, then_with, first_then)

pub record NewAttr (version before : ℕ) (a : Attr) : Type 0 where
  pub fits : FitsAttr version a
  pub few : before + a.count ≤ most_values

pub attribute_read : (version : ℕ) (titles : List Title) (before : ℕ) (owner : List ℕ) (ws : List Word) → before ≤ most_values → IfOk (attribute version titles before owner ws) (NewAttr version before)
attribute_read version titles before owner ws h =
    then_with (attribute_name titles owner ws) _ _ (λ r. is_name r.0 ≡ true) (title_named titles owner ws) (λ n good.
    word_then (type_of version) kind.UnknownWord n.1 _ _ (λ t. is_type version t ≡ true) (type_read version) (λ t typed.
    then_with (values (Some t.0) before t.1) _ _ (FitsValues (Some t.0) before) (values_read (Some t.0) before t.1 h) (λ vs fits.
    record { fits = attr_fits version n.0 t.0 vs good typed (omega arith); few = fits.few })))

-- ---- a variable, over these dimensions, after so many lines

pub record FitsVar (version lines : ℕ) (dims : List Dim) (v : Var) : Type 0 where
  pub named : fits_count version (length v.name) ≡ true
  pub typed : is_type version v.kind ≡ true
  pub few_dims : length v.dims ≤ most_dims_of_var
  pub ids : AllByRecursion (λ id. id < length dims) v.dims
  pub inner : AllByRecursion (λ id. is_record_dim dims id ≡ false) (drop 1 v.dims)
  pub few_attrs : length v.attrs ≤ lines
  pub attrs : AllByRecursion (FitsAttr version) v.attrs
  pub begins : v.begin ≡ 0

still_inner : (dims : List Dim) (d : Dim) (id : ℕ) → id < length dims → is_record_dim dims id ≡ false → is_record_dim (dims ++ d ∷ []) id ≡ false
still_inner dims d id h e = ap (λ (o : Option Dim). elim o as (λ _. Bool) [ None ↦ false | Some x ↦ is_unlimited x ]) (get_left dims (d ∷ []) id h) ∙ e

pub wider : (version lines : ℕ) (dims : List Dim) (d : Dim) (v : Var) → FitsVar version lines dims v → FitsVar version lines (dims ++ d ∷ []) v
wider version lines dims d v f =
    let ids = each_weaker (λ id. id < length dims) (λ id. id < length (dims ++ d ∷ [])) (λ id h. omega (arith, length-append dims (d ∷ []))) v.dims f.ids in
    grind (arith, common_steps, each_weaker (λ id. (id < length dims) × (is_record_dim dims id ≡ false)) (λ id. is_record_dim (dims ++ d ∷ []) id ≡ false) (λ id h. still_inner dims d id h.0 h.1) (drop 1 v.dims), still_inner dims d, all_both (λ id. id < length dims) (λ id. is_record_dim dims id ≡ false) (drop 1 v.dims) (each_later (λ id. id < length dims) v.dims f.ids) f.inner, each_later (λ id. id < length dims) v.dims f.ids)

pub later : (version lines more : ℕ) (dims : List Dim) → lines ≤ more → (v : Var) → FitsVar version lines dims v → FitsVar version more dims v
later version lines more dims h v f = grind (arith, nat_tests, named)

-- ---- the places of a variable's dimensions

some_or_fault : {A : Type 0} (e : ScriptKind) (o : Option A) (P : A → Type 0) → IfSome o P → IfOk (or_fault e o) P
some_or_fault e o P h = grind (arith, nat_tests)

ids_found : (dims : List Dim) (names : List (List ℕ)) → IfSome (dim_ids dims names) (λ ids. AllByRecursion (λ id. id < length dims) ids)
ids_found dims names =
    found_all (λ id. id < length dims) (λ n. position (bytes_eq n) (dim_names dims)) (λ n id e. grind (arith, position_below (bytes_eq n) (dim_names dims) id e, length-map dims (λ (d : Dim). d.name))) names

record FitsShape (dims : List Dim) (ids : List ℕ) : Type 0 where
  few : length ids ≤ most_dims_of_var
  below : AllByRecursion (λ id. id < length dims) ids
  inner : AllByRecursion (λ id. is_record_dim dims id ≡ false) (drop 1 ids)

shaped : (dims : List Dim) (ws : List Word) → IfOk (shape dims ws) (λ r. FitsShape dims r.0)
shaped dims ws =
    first_then (name_list ws) _ _ (λ names _.
    then_with (or_fault kind.UnknownName (dim_ids dims names.0)) _ _ (λ ids. AllByRecursion (λ id. id < length dims) ids)
    (some_or_fault kind.UnknownName (dim_ids dims names.0) (λ ids. AllByRecursion (λ id. id < length dims) ids) (ids_found dims names.0))
    (λ ids below. grind (arith, nat_tests, unless, ltb-false, fails_each (is_record_dim dims))))

pub record NewHead (version : ℕ) (names : List (List ℕ)) (t : NcType) (n : List ℕ) : Type 0 where
  pub typed : is_type version t ≡ true
  pub good : is_name n ≡ true
  pub room : length names < most_vars

pub head_read : (version : ℕ) (names : List (List ℕ)) (ws : List Word) → IfOk (var_head version names ws) (λ r. NewHead version names r.0.0 r.0.1)
head_read version names ws = grind (arith, nat_tests, word_then, type_read, name_read, unless, nat_le, kind.TwiceNamed)

pub record NewVar (version lines : ℕ) (dims : List Dim) (vars : List Var) (v : Var) : Type 0 where
  pub none : attr_values v.attrs ≡ 0
  pub fits : FitsVar version lines dims v
  pub room : length vars < most_vars

pub var_read : (version lines : ℕ) (dims : List Dim) (vars : List Var) (ws : List Word) → IfOk (var_line version dims vars ws) (NewVar version lines dims vars)
var_read version lines dims vars ws =
    then_with (var_head version (var_names vars) ws) _ _ (λ r. NewHead version (var_names vars) r.0.0 r.0.1) (head_read version (var_names vars) ws) (λ v head.
    then_with (shape dims v.1) _ _ (λ r. FitsShape dims r.0) (shaped dims v.1) (λ ids fits.
    first_then (ended ids.1) _ _ (grind (arith, common_steps, named, small_fits, name_short))))

-- ---- an attribute more of one variable

at_place : (o : Option Var) (vars : List Var) (f : Var → List Var) (P : List Var → Type 0) → P vars → ((v : Var) → o ≡ Some v → P (f v)) → P (elim o as (λ _. List Var) [ None ↦ vars | Some v ↦ f v ])
at_place o vars f P old new = grind (arith, nat_tests)

pub attr_placed : (version lines : ℕ) (dims : List Dim) (k : ℕ) (a : Attr) (vars : List Var) → FitsAttr version a → AllByRecursion (FitsVar version lines dims) vars
    → AllByRecursion (FitsVar version (suc lines) dims) (with_attr_at k a vars)
attr_placed version lines dims k a vars fits all =
    let more = each_weaker (FitsVar version lines dims) (FitsVar version (suc lines) dims) (later version lines (suc lines) dims (omega arith)) vars all in
    grind (arith, nat_tests, at_place (slice_get vars k) vars, slice_get vars k, all_set (FitsVar version (suc lines) dims) vars k, each_push, length-append, each_at (FitsVar version lines dims) vars k)

pub length-placed : (k : ℕ) (a : Attr) (vars : List Var) → length (with_attr_at k a vars) ≡ length vars
length-placed k a vars = grind (arith, nat_tests, slice_get vars k, slice_set, length-set)

-- the values of all attributes of the variables
pub values_placed : (k : ℕ) (a : Attr) (vars : List Var) → sum (map (λ (v : Var). attr_values v.attrs) (with_attr_at k a vars)) ≤ sum (map (λ (v : Var). attr_values v.attrs) vars) + a.count
values_placed k a vars =
    at_place (slice_get vars k) vars (λ v. slice_set vars k (record v { attrs = v.attrs ++ a ∷ [] })) (λ xs. sum (map (λ (w : Var). attr_values w.attrs) xs) ≤ sum (map (λ (w : Var). attr_values w.attrs) vars) + a.count)
    (omega arith) (λ v e. sum_set (λ (w : Var). attr_values w.attrs) vars k a.count v _ e (omega (arith, sum_more (λ (b : Attr). b.count) v.attrs a)))
