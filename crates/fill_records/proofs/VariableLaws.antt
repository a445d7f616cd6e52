-- The fixed variables of a sound header, one after another.
use Rattle.fill_records.proofs.Words.{◌≡◌, ℕ, zero, suc, ◌+◌, ◌<◌, ◌≤◌, ◌-◌, refl, ◌∙◌, ap, List, [], ◌∷◌, ◌++◌, length, map, take, length-take, get_or, true, false, not, Some, arith, IfSome, slice_get, fold, flat_map, flat_map-append, append-nil, filter-append, fold-append, size_most, greatest_holds, Header, NcType, Var, stores, size_of, written, fill_bytes, fill_var, is_record, slab, end_of, end_of_var, fixed_variables, repeated, filled_variable, variable_stores, entry_map, entry_read, nat_tests, common_steps}
use Rattle.fill_records.proofs.WriteLaws.{var_filled}

-- ---- items of a list

pub got : {A : Type 0} (xs ys : List A) (k : ℕ) (x : A) → ys ≡ xs → k < length xs → x ≡ get_or ys k x → slice_get xs k ≡ Some x
got xs ys k x e h g = entry_read xs k x h (g ∙ ap (λ zs. get_or zs k x) e)

-- the item with a number, and what is known of it
pub known_at : {A : Type 0} (P : A → Type 0) (xs : List A) (k : ℕ) → k < length xs → IfSome (slice_get xs k) P
    → (x : A) × (take (k + 1) xs ≡ take k xs ++ x ∷ []) × P x
known_at P [] k h p = absurd (omega arith)
known_at P (x ∷ xs) zero h p = (x, refl, p)
known_at P (x ∷ xs) (suc k) h p =
    let rest = known_at P xs k (omega arith) p in
    grind (arith, nat_tests, rest.0, rest.1, rest.2, take)

-- ---- sizes and ends

-- the bytes that are taken of an array for the value
pub room_long : (kind : NcType) (n : ℕ) → n ≡ size_of kind → length {A = ℕ} (take n (0 ∷ 0 ∷ 0 ∷ 0 ∷ 0 ∷ 0 ∷ 0 ∷ 0 ∷ [])) ≡ size_of kind
room_long kind n e = let most = size_most kind in length-take n (0 ∷ 0 ∷ 0 ∷ 0 ∷ 0 ∷ 0 ∷ 0 ∷ 0 ∷ []) ∙ omega arith

pub fixed_end : (header : Header) (first k : ℕ) (v : Var) → slice_get header.vars k ≡ Some v → is_record header v ≡ false → v.begin + slab header v ≤ end_of header first 0
fixed_end header first k v h e =
    grind (arith, common_steps, greatest_holds (map (λ w. end_of_var header 0 w) header.vars) k (end_of_var header 0 v) (entry_map (λ w. end_of_var header 0 w) header.vars k v h), entry_map (λ w. end_of_var header 0 w) header.vars k v h)

-- ---- one variable

pub record_kept : (header : Header) (v : Var) (file : List ℕ) → is_record header v ≡ true → file ≡ filled_variable header v file
record_kept header v file e = grind (arith, nat_tests)

pub fixed_filled : (header : Header) (v : Var) (value file : List ℕ) (len : ℕ) → is_record header v ≡ false → value ≡ fill_bytes v → length value ≡ size_of v.kind
    → len ≡ slab header v → v.begin + len ≤ length file → written file v.begin (repeated value 0 len) ≡ filled_variable header v file
fixed_filled header v value file len e f l s h = grind (arith, nat_tests, var_filled header v value file e f l (omega arith))

pub record_stores : (size : ℕ) (header : Header) (v : Var) → is_record header v ≡ true → variable_stores size header v ≡ []
record_stores size header v e = grind (arith, nat_tests)

pub fixed_stores : (size : ℕ) (header : Header) (v : Var) (len : ℕ) → is_record header v ≡ false → len ≡ slab header v
    → stores size v.begin len ≡ variable_stores size header v
fixed_stores size header v len e s = grind (arith, nat_tests, append-nil (stores size v.begin (slab header v)))

-- ---- one more variable

pub filled_more : (header : Header) (k : ℕ) (v : Var) (file : List ℕ) → take (k + 1) header.vars ≡ take k header.vars ++ v ∷ []
    → filled_variable header v (fold (fill_var header) file (fixed_variables header (take k header.vars)))
    ≡ fold (fill_var header) file (fixed_variables header (take (k + 1) header.vars))
filled_more header k v file e =
    grind (arith, nat_tests, filter-append, not, fold-append (fill_var header) file (fixed_variables header (take k header.vars)) (fixed_variables header (v ∷ [])))

pub fill_stores_more : (size : ℕ) (header : Header) (k : ℕ) (v : Var) → take (k + 1) header.vars ≡ take k header.vars ++ v ∷ []
    → flat_map (λ w. stores size w.begin (slab header w)) (fixed_variables header (take k header.vars)) ++ variable_stores size header v
    ≡ flat_map (λ w. stores size w.begin (slab header w)) (fixed_variables header (take (k + 1) header.vars))
fill_stores_more size header k v e = grind (arith, nat_tests, filter-append, not, flat_map-append)
