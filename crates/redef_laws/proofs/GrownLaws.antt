-- What a header keeps while extras are added to it.
use Rattle.redef_laws.proofs.Words.{filter_none, any_member, ◌≡◌, ℕ, suc, ◌*◌, ◌<◌, ◌≤◌, List, [], ◌∷◌, ◌++◌, length, drop, map, Bool, true, false, ◌&&◌, Option, Some, None, refl, arith, length-append, not, nat_lt, nat_le, ◌==◌, is_none, filter, slice_get, list_any, list_all, AllByRecursion, length-map, filter-append, le-leb, leb-true, ltb-true, ltb-false, leb-false, slice_get_within, fails_each, each_weaker, each_push, each_later, each_map, and_first, and_second, Header, Dim, Attr, Var, NcType, Extra, most_vars, file_limit, record_limit, size_of, length_of, is_record_id, fits_count, is_type, find_dim, is_lawful_extra, is_whole_extra, with_var_attr, with_extra, added, dim_id, is_unknown, has_bad_shape, is_one_too_many, has_bad_kind, extra_fault, extras_from, get_left, nat_tests, told_else, some_or_none, no_both, entry_below, position_below, small_field}
use Rattle.nc_base.specs.declared.script.Extra.TheVariants as extra
use Rattle.nc_base.specs.declared.errors.RedefErr.TheVariants as redef
use Rattle.redef_laws.proofs.FieldLaws.{each_both}

-- ---- the facts

-- an attribute of a type of the version, with the bytes of its count
pub record IsTyped (version : ℕ) (a : Attr) : Type 0 where
  pub kind : is_type version a.kind ≡ true
  pub whole : length a.bytes ≡ a.count * size_of a.kind

pub record HasFitLength (version : ℕ) (d : Dim) : Type 0 where
  pub fits : fits_count version d.len ≡ true
  pub small : d.len ≤ file_limit

abbrev pub is_record_at : List Dim → ℕ → Bool
is_record_at dims id = length_of (slice_get dims id) == 0

-- of a variable, without its name and begin
pub record IsFitShape (version : ℕ) (dims : List Dim) (ids : List ℕ) (kind : NcType) (attrs : List Attr) : Type 0 where
  pub few : length ids ≤ 32
  pub known : AllByRecursion (λ id. id < length dims) ids
  pub later : AllByRecursion (λ id. is_record_at dims id ≡ false) (drop 1 ids)
  pub known_type : is_type version kind ≡ true
  pub typed : AllByRecursion (IsTyped version) attrs

abbrev pub IsFitVar : ℕ → List Dim → Var → Type 0
IsFitVar version dims v = IsFitShape version dims v.dims v.kind v.attrs

abbrev pub is_record_dim : Dim → Bool
is_record_dim d = d.len == 0

pub record IsFit (h : Header) : Type 0 where
  pub few_dims : length h.dims ≤ 1024
  pub few_vars : length h.vars ≤ 8192
  pub lengths : AllByRecursion (HasFitLength h.version) h.dims
  pub one_record : length (filter is_record_dim h.dims) ≤ 1
  pub attrs : AllByRecursion (IsTyped h.version) h.attrs
  pub vars : AllByRecursion (IsFitVar h.version h.dims) h.vars

-- ---- no fault of one extra

pub record HasNoFault (h : Header) (e : Extra) : Type 0 where
  pub known : is_unknown h e ≡ false
  pub shape : has_bad_shape h e ≡ false
  pub room : is_one_too_many h e ≡ false
  pub kind : has_bad_kind h e ≡ false

-- ---- one more dimension

one_record_still : (dims : List Dim) (d : Dim) → length (filter is_record_dim dims) ≤ 1 → (d.len == 0 && list_any (λ (e : Dim). e.len == 0) dims) ≡ false
    → length (filter is_record_dim (dims ++ d ∷ [])) ≤ 1
one_record_still dims d l h = grind (arith, nat_tests, filter-append, length-append, filter_none is_record_dim dims, any_member (λ (e : Dim). e.len == 0) dims)

length_fits : (version : ℕ) (d : Dim) → nat_lt d.len (record_limit 5) ≡ true → (not (version == 5) && nat_le (record_limit version) d.len) ≡ false → HasFitLength version d
length_fits version d lawful h = grind (arith, nat_tests, ltb-true, small_field, leb-false)

with_dim : (h : Header) (d : Dim) → IsFit h → HasNoFault h (extra.Dim d) → is_lawful_extra (extra.Dim d) ≡ true → IsFit (with_extra h (extra.Dim d))
with_dim h d fit none lawful =
    grind (
      arith,
      nat_tests,
      each_push (HasFitLength h.version) h.dims d fit.lengths (length_fits h.version d lawful none.kind),
      length_fits h.version d lawful none.kind,
      one_record_still h.dims d fit.one_record none.shape,
      each_weaker (IsFitVar h.version h.dims) (IsFitVar h.version (h.dims ++ d ∷ [])),
      each_both,
      get_left,
      each_later,
      length-append,
    )

-- ---- one more variable

ids_known : (h : Header) (names : List (List ℕ)) → AllByRecursion (λ n. is_none (find_dim h n) ≡ false) names → AllByRecursion (λ n. dim_id h n < length h.dims) names
ids_known h names all = grind (arith, nat_tests, each_weaker, some_or_none, no_both, entry_below, position_below, slice_get_within)

fit_new_var : (h : Header) (kind : NcType) (name : List ℕ) (names : List (List ℕ)) → HasNoFault h (extra.Var kind name names) → is_lawful_extra (extra.Var kind name names) ≡ true
    → IsFitShape h.version h.dims (map (dim_id h) names) kind []
fit_new_var h kind name names none lawful =
    let known = each_map (λ id. id < length h.dims) (dim_id h) names (ids_known h names (fails_each (λ n. is_none (find_dim h n)) names none.known)) in
    let later = each_map (λ id. is_record_at h.dims id ≡ false) (dim_id h) (drop 1 names) (fails_each (λ n. is_record_id h (dim_id h n)) (drop 1 names) none.shape) in
    grind (arith, nat_tests, leb-true (length names) 32 lawful, length-map names (dim_id h), known, later, drop, map, le-leb, ltb-false, none.kind)

with_var : (h : Header) (kind : NcType) (name : List ℕ) (names : List (List ℕ)) → IsFit h → HasNoFault h (extra.Var kind name names)
    → is_lawful_extra (extra.Var kind name names) ≡ true → IsFit (with_extra h (extra.Var kind name names))
with_var h kind name names fit none lawful =
    grind (arith, nat_tests, leb-false most_vars (length h.vars) none.room, fit_new_var h kind name names none lawful, length-append, each_push)

-- ---- one more attribute

typed : (h : Header) (owner : Option (List ℕ)) (a : Attr) → HasNoFault h (extra.Att owner a) → is_whole_extra (extra.Att owner a) ≡ true → IsTyped h.version a
typed h owner a none whole = grind (arith, nat_tests, none.kind)

pub attr_pushed : (P : Var → Type 0) (name : List ℕ) (a : Attr) (vs : List Var) → ((v : Var) → P v → P (record v { attrs = v.attrs ++ a ∷ [] }))
    → AllByRecursion P vs → AllByRecursion P (with_var_attr name a vs)
attr_pushed P name a [] push all = tt
attr_pushed P name a (v ∷ vs) push all = grind (arith, nat_tests, attr_pushed P name a vs push all.1)

attr_long : (name : List ℕ) (a : Attr) (vs : List Var) → length (with_var_attr name a vs) ≡ length vs
attr_long name a [] = refl
attr_long name a (v ∷ vs) = grind (arith, nat_tests, attr_long name a vs)

-- ---- all extras

one_more : (h : Header) (e : Extra) → IsFit h → HasNoFault h e → is_lawful_extra e ≡ true → is_whole_extra e ≡ true → IsFit (with_extra h e)
one_more h (extra.Dim d) fit none lawful whole = with_dim h d fit none lawful
one_more h (extra.Var kind name names) fit none lawful whole = with_var h kind name names fit none lawful
one_more h (extra.Att None a) fit none lawful whole = grind (arith, nat_tests, each_push, typed h None a none whole)
one_more h (extra.Att (Some owner) a) fit none lawful whole = grind (arith, nat_tests, attr_long, attr_pushed, each_push, typed h (Some owner) a none whole)

no_first : (h : Header) (k : ℕ) (e : Extra) (extras : List Extra) → extras_from h k (e ∷ extras) ≡ None
    → (extra_fault h k e ≡ None) × (extras_from (with_extra h e) (suc k) extras ≡ None)
no_first h k e extras none = grind (arith, nat_tests)

pub all_more : (h : Header) (k : ℕ) (extras : List Extra) → IsFit h → extras_from h k extras ≡ None → list_all is_lawful_extra extras ≡ true
    → list_all is_whole_extra extras ≡ true → IsFit (added h extras)
all_more h k [] fit none lawful whole = fit
all_more h k (e ∷ extras) fit none lawful whole =
    grind (arith, nat_tests, no_first, all_more (with_extra h e) (suc k) extras, one_more, told_else, and_first, and_second)

pub record HasVersionOf (old new : Header) : Type 0 where
  pub version : new.version ≡ old.version
  pub records : new.records ≡ old.records

pub all_same : (h : Header) (extras : List Extra) → HasVersionOf h (added h extras)
all_same h [] = record { version = refl; records = refl }
all_same h (e ∷ extras) = grind (arith, nat_tests, all_same (with_extra h e) extras)
