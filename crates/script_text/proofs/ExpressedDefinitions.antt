-- Definitions that words can express say themselves, printed, and stand behind those before them.
use Rattle.script_text.proofs.Words.{◌≡◌, ◌∙◌, ◌⊎◌, ℕ, zero, suc, ◌+◌, ◌^◌, ◌≤◌, ◌<◌, List, [], ◌∷◌, ◌++◌, map, position, drop, length, true, false, not, nat_lt, nat_le, ◌==◌, ◌&&◌, Some, refl, sym, ap, inl, append_assoc, length-append, arith, bytes_eq, list_all, list_any, and_parts, and_from, not-true, ltb-true, Dim, Var, Header, most_dims, most_vars, most_dims_of_var, record_limit, number_of, last_type, is_lawful_dim, is_lawful_var, is_name, is_among, dim_names, is_record_dim, is_unlimited, is_new_name, are_expressible_dims, is_expressible_var, are_expressible_vars, is_expressible_header, nat_tests, common_steps}
use Rattle.script_text.proofs.Numerals.{name_plain}
use Rattle.serial_spec.proofs.MemberLaws.{empty_list}
use Rattle.script_text.proofs.PrintedAttributes.{type_told}
use Rattle.script_text.proofs.PrintedDefinitions.{length_told}
use Rattle.script_text.proofs.StatementLines.{var_shown}
use Rattle.script_spelling.proofs.Places.{name_at, place_of_new, joined_names, length_names, ids_found}
use Rattle.script_text.proofs.DefinedChains.{DimChain, line_for, VarOk, VarChain, OwnChains, DefinedOk, lines_of_own}

-- a name that is one, and that none has
new_name : (names : List (List ℕ)) (n : List ℕ) → is_new_name names n ≡ true → (is_name n ≡ true) × (is_among n names ≡ false)
new_name names n h = grind (arith, nat_tests, and_parts, not, not-true)

-- ---- dimensions

length_cases : (version n : ℕ) → n < record_limit version → (n ≡ 0) ⊎ (((n == 0) ≡ false) × (n < record_limit version) × (n < 2 ^ 63))
length_cases version zero h = inl refl
length_cases version (suc n) h = grind (arith, nat_tests)

record DimParts (before : List Dim) (d : Dim) (ds : List Dim) : Type 0 where
  named : is_name d.name ≡ true
  fresh : is_among d.name (dim_names before) ≡ false
  one : (is_unlimited d && list_any is_unlimited before) ≡ false
  rest : are_expressible_dims (before ++ d ∷ []) ds ≡ true

dim_parts : (before : List Dim) (d : Dim) (ds : List Dim) → are_expressible_dims before (d ∷ ds) ≡ true → DimParts before d ds
dim_parts before d ds h = grind (arith, nat_tests, and_parts, not, new_name, not-true)

dims_chained : (version : ℕ) (before ds : List Dim) → are_expressible_dims before ds ≡ true → list_all (is_lawful_dim version) ds ≡ true → length before + length ds ≤ most_dims → DimChain version before ds
dims_chained version before [] h lawful few = tt
dims_chained version before (d ∷ ds) h lawful few =
    let parts = dim_parts before d ds h in
    grind (arith, common_steps, length_told version d.len (length_cases version d.len (ltb-true d.len (record_limit version) (and_parts (is_lawful_dim version d) (list_all (is_lawful_dim version) ds) lawful).0)), length_cases version d.len (ltb-true d.len (record_limit version) (and_parts (is_lawful_dim version d) (list_all (is_lawful_dim version) ds) lawful).0), dims_chained version (before ++ d ∷ []) ds parts.rest (and_parts (is_lawful_dim version d) (list_all (is_lawful_dim version) ds) lawful).1, name_plain)

-- ---- their places

dim_found : (before ds : List Dim) (k : ℕ) → are_expressible_dims before ds ≡ true → k < length ds → position (bytes_eq (name_at ds k)) (dim_names before ++ dim_names ds) ≡ Some (length before + k)
dim_found before [] k h low = absurd (omega arith)
dim_found before (d ∷ ds) zero h low = grind (arith, nat_tests, length_names, place_of_new, dim_parts)
dim_found before (d ∷ ds) (suc k) h low =
    let names : dim_names before ++ d.name ∷ dim_names ds ≡ dim_names (before ++ d ∷ []) ++ dim_names ds =
    sym (ap (λ (ns : List (List ℕ)). ns ++ dim_names ds) (joined_names before (d ∷ [])) ∙ append_assoc (dim_names before) (d.name ∷ []) (dim_names ds)) in
    grind (arith, common_steps, position (bytes_eq (name_at ds k)), dim_found (before ++ d ∷ []) ds k (dim_parts before d ds h).rest, dim_parts before d ds h)

dim_named : (before ds : List Dim) (k : ℕ) → are_expressible_dims before ds ≡ true → k < length ds → is_name (name_at ds k) ≡ true
dim_named before [] k h low = absurd (omega arith)
dim_named before (d ∷ ds) zero h low = (dim_parts before d ds h).named
dim_named before (d ∷ ds) (suc k) h low = dim_named (before ++ d ∷ []) ds k (dim_parts before d ds h).rest (omega arith)

dims_named : (dims : List Dim) (ids : List ℕ) → are_expressible_dims [] dims ≡ true → list_all (λ id. nat_lt id (length dims)) ids ≡ true → list_all is_name (map (name_at dims) ids) ≡ true
dims_named dims [] h low = refl
dims_named dims (id ∷ ids) h low = grind (arith, nat_tests, dims_named dims ids h, and_parts, dim_named [] dims id h, ltb-true, and_from)

-- ---- variables

record VarParts (version : ℕ) (dims : List Dim) (v : Var) : Type 0 where
  plain : v.attrs ≡ []
  known : nat_le (number_of v.kind) (last_type version) ≡ true
  there : list_all (λ id. nat_lt id (length dims)) v.dims ≡ true
  records : list_any (is_record_dim dims) (drop 1 v.dims) ≡ false

var_parts : (version : ℕ) (dims : List Dim) (v : Var) → is_expressible_var version dims v ≡ true → VarParts version dims v
var_parts version dims v h = grind (arith, nat_tests)

var_chained : (version : ℕ) (dims : List Dim) (names : List (List ℕ)) (v : Var) → are_expressible_dims [] dims ≡ true → is_lawful_var v ≡ true → is_new_name names v.name ≡ true → is_expressible_var version dims v ≡ true
    → length names < most_vars → VarOk version dims names v
var_chained version dims names v all lawful fresh h room =
    let parts = var_parts version dims v h in
    let n = new_name names v.name fresh in
    let limits = and_parts (nat_le (length v.dims) most_dims_of_var) (v.begin == 0) lawful in
    let named = dims_named dims v.dims all parts.there in
    let found = ids_found dims v.dims (λ k low. let same : 0 + k ≡ k = omega arith in dim_found [] dims k all low ∙ ap (λ (i : ℕ). Some i) same) parts.there in
    grind (arith, common_steps, var_shown version (line_for dims v) (type_told version v.kind parts.known) n.0 named, type_told version v.kind parts.known)

vars_chained : (version : ℕ) (dims : List Dim) (names : List (List ℕ)) (vs : List Var) → are_expressible_dims [] dims ≡ true → list_all is_lawful_var vs ≡ true → are_expressible_vars version dims names vs ≡ true
    → length names + length vs ≤ most_vars → VarChain version dims names vs × OwnChains version vs × (lines_of_own vs ≡ [])
vars_chained version dims names [] all lawful h few = (tt, tt, refl)
vars_chained version dims names (v ∷ vs) all lawful h few =
    let limits = and_parts (is_lawful_var v) (list_all is_lawful_var vs) lawful in
    let both = and_parts (is_new_name names v.name && is_expressible_var version dims v) _ h in
    let first = and_parts (is_new_name names v.name) (is_expressible_var version dims v) both.0 in
    let more = vars_chained version dims (names ++ v.name ∷ []) vs all limits.1 both.1 (omega (arith, length-append names (v.name ∷ []))) in grind (arith, nat_tests, var_chained version dims names v all limits.0 first.0 first.1, more.0, more.1, v.name, more.2)

-- ---- the definitions of a header, which has no attributes

pub record HeaderTold (header : Header) : Type 0 where
  pub defined : DefinedOk header.version header
  pub no_attrs : header.attrs ≡ []
  pub no_own : lines_of_own header.vars ≡ []

pub header_told : (header : Header) → is_expressible_header header ≡ true → list_all (is_lawful_dim header.version) header.dims ≡ true → length header.dims ≤ most_dims
    → list_all is_lawful_var header.vars ≡ true → length header.vars ≤ most_vars → HeaderTold header
header_told header h dims few_dims vars few_vars =
    grind (arith, nat_tests, empty_list header.attrs, vars_chained header.version header.dims [] header.vars, dims_chained header.version [] header.dims)
