-- How long the parts of a written header are.
use Rattle.var_layout.proofs.Words.{refl, ◌≡◌, ℕ, ◌+◌, ◌*◌, ◌≤◌, List, [], ◌∷◌, ◌++◌, length, take, arith, sum_by, flat_map, byte_len, length-append, take_all, length-flat_map, count_long, Header, Var, vsize, count, count_width, begin_width, tag, list_of, name, dimension, attribute, variable, canon, header_len, capped, nat_tests}

pub list_len : {A : Type 0} (version t : ℕ) (entry : A → List ℕ) (xs : List A)
    → length (list_of version t entry xs) ≡ 4 + byte_len (count_width version) + sum_by (λ x. length (entry x)) xs
list_len version t entry [] = grind (arith, nat_tests, length-append, count_long)
list_len version t entry (x ∷ xs) =
    let head = tag t ++ count version (length (x ∷ xs)) in
    rw (length-append head (flat_map entry (x ∷ xs)), length-append (tag t) (count version (length (x ∷ xs))), count_long version (length (x ∷ xs)), length-flat_map entry (x ∷ xs)) refl

-- a list of entries, at the end of a loop
pub list_whole : {A : Type 0} (version t : ℕ) (entry : A → List ℕ) (xs : List A) (n : ℕ) → length xs ≤ n
    → capped (4 + byte_len (count_width version) + sum_by (λ x. length (entry x)) (take n xs)) ≡ capped (length (list_of version t entry xs))
list_whole version t entry xs n h = grind (arith, nat_tests, take_all, list_len)

ids_len : (version : ℕ) (ids : List ℕ) → length (flat_map (λ id. count version id) ids) ≡ byte_len (count_width version) * length ids
ids_len version [] = omega arith
ids_len version (id ∷ ids) = grind (arith, nat_tests, ids_len version ids, length-append, count_long)

-- of a variable: its name, its shape, its attributes, its type, vsize and begin
pub variable_len : (header : Header) (v : Var)
    → length (variable header v) ≡ length (name header.version v.name) + byte_len (count_width header.version) + byte_len (count_width header.version) * length v.dims
    + length (list_of header.version 12 (λ a. attribute header.version a) v.attrs) + 4 + byte_len (count_width header.version) + byte_len (begin_width header.version)
variable_len header v =
    grind (arith, nat_tests, count_long header.version (length v.dims), ids_len header.version v.dims, count_long header.version (vsize header v), length-append)

pub canon_len : (header : Header)
    → header_len header ≡ 4 + byte_len (count_width header.version) + length (list_of header.version 10 (λ d. dimension header.version d) header.dims)
    + length (list_of header.version 12 (λ a. attribute header.version a) header.attrs) + length (list_of header.version 11 (λ v. variable header v) header.vars)
unfolding canon
canon_len header = grind (arith, nat_tests, count_long, length-append)
