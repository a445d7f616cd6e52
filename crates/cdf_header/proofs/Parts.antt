-- What `is_writable` says, part by part.
use Rattle.cdf_header.proofs.Words.{◌≡◌, ℕ, ◌^◌, ◌<◌, List, [], ◌∷◌, Bool, true, AllByRecursion, list_all, passes_each, and_first, and_second, Header, Var, vsize, fits_count, is_writable, is_writable_attr, is_writable_dim, is_writable_list, is_writable_var, measured, IsWritableList, IsWritableVar, arith, nat_tests}
use Rattle.cdf_header.proofs.Measured.{sizes_kept}

list_parts : {A : Type 0} (version : ℕ) (test : A → Bool) (xs : List A) → is_writable_list version test xs ≡ true → IsWritableList version (λ x. test x ≡ true) xs
list_parts version test xs h = record { count = and_first _ _ h; each = passes_each test xs (and_second _ _ h) }

var_parts : (h : Header) (v : Var) → is_writable_var h v ≡ true → vsize h v < 2 ^ 62 → IsWritableVar h v
var_parts h v t small = grind (arith, nat_tests, and_first, list_parts, and_second)

each_var : (h : Header) (vs : List Var) → list_all (is_writable_var h) vs ≡ true → AllByRecursion (λ v. vsize h v < 2 ^ 62) vs → AllByRecursion (IsWritableVar h) vs
each_var h [] t l = tt
each_var h (v ∷ vs) t l = (var_parts h v (and_first _ _ t) l.0, each_var h vs (and_second _ _ t) l.1)

-- the parts of a header
pub records_fit : (h : Header) → is_writable h ≡ true → fits_count h.version h.records ≡ true
records_fit h t = and_second _ _ (and_first _ _ (and_first _ _ (and_first _ _ t)))

pub dims_ready : (h : Header) → is_writable h ≡ true → IsWritableList h.version (λ d. is_writable_dim h.version d ≡ true) h.dims
dims_ready h t = list_parts h.version (is_writable_dim h.version) h.dims (and_second _ _ (and_first _ _ (and_first _ _ t)))

pub attrs_ready : (h : Header) → is_writable h ≡ true → IsWritableList h.version (λ a. is_writable_attr h.version a ≡ true) h.attrs
attrs_ready h t = list_parts h.version (is_writable_attr h.version) h.attrs (and_second _ _ (and_first _ _ t))

pub vars_ready : (h : Header) → is_writable h ≡ true → IsWritableList h.version (IsWritableVar h) h.vars
vars_ready h t = grind (arith, nat_tests, and_first, and_second, each_var, sizes_kept, measured)
