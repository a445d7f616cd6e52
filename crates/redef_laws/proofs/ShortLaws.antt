-- In a header that is short each name, list and attribute is short.
use Rattle.redef_laws.proofs.Words.{◌≡◌, ℕ, ◌-◌, ◌^◌, ◌≤◌, List, [], ◌∷◌, ◌++◌, length, true, arith, length-append, sum_by, AllByRecursion, sum_by-cons, and_from, row_below_bytes, small_count, each_passes, equal_true, Header, Dim, Attr, Var, name, padded, count, tag, number_of, list_of, dimension, attribute, variable, header_len, is_writable_attr, is_writable_list, fits_count, list_len, variable_len, canon_len, nat_tests}
use Rattle.redef_laws.proofs.FieldLaws.{each_both}
use Rattle.redef_laws.proofs.GrownLaws.{IsTyped}

-- ---- the parts of a list

pub each_below : {A : Type 0} (f g : A → ℕ) → ((x : A) → f x ≤ g x) → (m : ℕ) (xs : List A) → sum_by g xs ≤ m → AllByRecursion (λ x. f x ≤ m) xs
each_below f g below m [] h = tt
each_below f g below m (x ∷ xs) h = let e = sum_by-cons g x xs in (omega (arith, e, below x, h), each_below f g below m xs (omega (arith, e, h)))

-- a list is no longer than its entries together, where each has a byte
few_below : {A : Type 0} (f : A → ℕ) → ((x : A) → 1 ≤ f x) → (xs : List A) → length xs ≤ sum_by f xs
few_below f some [] = omega arith
few_below f some (x ∷ xs) = omega (arith, sum_by-cons f x xs, some x, few_below f some xs)

-- ---- one entry

name_long : (version : ℕ) (text : List ℕ) → length text ≤ length (name version text)
name_long version text = grind (arith, nat_tests, length-append)

attr_long : (version : ℕ) (a : Attr) → (length a.name ≤ length (attribute version a)) × (length a.bytes ≤ length (attribute version a)) × (1 ≤ length (attribute version a))
attr_long version a =
    grind (
      arith,
      nat_tests,
      length-append (((name version a.name) ++ tag (number_of a.kind)) ++ count version a.count) (padded a.bytes),
      length-append ((name version a.name) ++ tag (number_of a.kind)) (count version a.count),
      length-append (name version a.name) (tag (number_of a.kind)),
      name_long version a.name,
      length-append a.bytes,
    )

attr_written : (version : ℕ) (a : Attr) → IsTyped version a → length (attribute version a) ≤ 2 ^ 20 → is_writable_attr version a ≡ true
attr_written version a t short = grind (arith, nat_tests, attr_long, row_below_bytes, and_from, small_count, equal_true)

-- ---- a list of attributes

pub attrs_written : (version : ℕ) (attrs : List Attr) → AllByRecursion (IsTyped version) attrs → length (list_of version 12 (λ a. attribute version a) attrs) ≤ 2 ^ 20
    → is_writable_list version (is_writable_attr version) attrs ≡ true
attrs_written version attrs all short =
    let whole = list_len version 12 (λ a. attribute version a) attrs in
    let sum : sum_by (λ a. length (attribute version a)) attrs ≤ 2 ^ 20 = omega (arith, whole, short) in
    let few = few_below (λ a. length (attribute version a)) (λ a. (attr_long version a).2) attrs in
    let each = each_both _ _ (λ a. is_writable_attr version a ≡ true) (attr_written version) attrs all (each_below _ (λ a. length (attribute version a)) (λ a. omega arith) (2 ^ 20) attrs sum) in
    and_from (fits_count version (length attrs)) _ (small_count version (length attrs) (omega (arith, sum, few))) (each_passes (is_writable_attr version) attrs each)

-- ---- a header

pub record IsShort (header : Header) : Type 0 where
  pub dims : AllByRecursion (λ d. length d.name ≤ 2 ^ 20) header.dims
  pub attrs : length (list_of header.version 12 (λ a. attribute header.version a) header.attrs) ≤ 2 ^ 20
  pub names : AllByRecursion (λ (v : Var). length v.name ≤ 2 ^ 20) header.vars
  pub var_attrs : AllByRecursion (λ (v : Var). length (list_of header.version 12 (λ a. attribute header.version a) v.attrs) ≤ 2 ^ 20) header.vars

pub is_short : (header : Header) → header_len header ≤ 2 ^ 20 → IsShort header
is_short header h =
    let version = header.version in
    let whole = canon_len header in
    let dims = list_len version 10 (λ d. dimension version d) header.dims in
    let vars = list_len version 11 (λ v. variable header v) header.vars in
    record {
      dims = each_below (λ (d : Dim). length d.name) (λ d. length (dimension version d)) (λ d. grind (arith, nat_tests, length-append (name version d.name) (count version d.len), name_long version d.name)) (2 ^ 20) header.dims (omega (arith, whole, dims, h));
      attrs = omega (arith, whole, h);
      names =
          each_below (λ (v : Var). length v.name) (λ v. length (variable header v)) (λ v. omega (arith, variable_len header v, name_long version v.name)) (2 ^ 20) header.vars
          (omega (arith, whole, vars, h));
      var_attrs =
          each_below (λ (v : Var). length (list_of version 12 (λ a. attribute version a) v.attrs)) (λ v. length (variable header v)) (λ v. omega (arith, variable_len header v))
          (2 ^ 20) header.vars (omega (arith, whole, vars, h));
    }
