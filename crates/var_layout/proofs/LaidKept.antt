-- What the begins that a layout gives leave as it was: sums and tests over the variables, and the length of the header.
use Rattle.var_layout.proofs.Words.{◌≡◌, ℕ, suc, ◌-◌, List, [], ◌∷◌, length, take, Bool, refl, sym, ◌∙◌, arith, sum_by, list_any, list_all, sum_by-cons, Header, Var, Align, placed, begins, header_len, variable, counts_are_small, nat_tests}
use Rattle.var_layout.proofs.WrittenLengths.{list_len, variable_len, canon_len}
use Rattle.var_layout.proofs.CreatedFiles.{at_begin, length-placed}

-- ---- what does not look at the begins

placed_all : (test : Var → Bool) → ((v : Var) (b : ℕ) → test (at_begin v b) ≡ test v) → (header : Header) (align : Align) (first n : ℕ) (vs : List Var)
    → list_all test (placed header align first n vs) ≡ list_all test vs
placed_all test same header align first n [] = refl
placed_all test same header align first n (v ∷ vs) = grind (arith, nat_tests, placed_all test same header align first (suc n) vs)

pub placed_any : (test : Var → Bool) → ((v : Var) (b : ℕ) → test (at_begin v b) ≡ test v) → (header : Header) (align : Align) (first n : ℕ) (vs : List Var)
    → list_any test (placed header align first n vs) ≡ list_any test vs
placed_any test same header align first n [] = refl
placed_any test same header align first n (v ∷ vs) = grind (arith, nat_tests, placed_any test same header align first (suc n) vs)

placed_sum : (f : Var → ℕ) → ((v : Var) (b : ℕ) → f (at_begin v b) ≡ f v) → (header : Header) (align : Align) (first n : ℕ) (vs : List Var)
    → sum_by f (placed header align first n vs) ≡ sum_by f vs
placed_sum f same header align first n [] = refl
placed_sum f same header align first n (v ∷ vs) = grind (arith, nat_tests, placed_sum f same header align first (suc n) vs, sum_by-cons)

pub placed_sum_front : (f : Var → ℕ) → ((v : Var) (b : ℕ) → f (at_begin v b) ≡ f v) → (header : Header) (align : Align) (first n : ℕ) (vs : List Var) (k : ℕ)
    → sum_by f (take k (placed header align first n vs)) ≡ sum_by f (take k vs)
placed_sum_front f same header align first n (v ∷ vs) (suc k) = grind (arith, nat_tests, placed_sum_front f same header align first (suc n) vs k, sum_by-cons)
placed_sum_front f same header align first n vs k = grind (arith, nat_tests)

-- the length of the header
pub laid_len : (header : Header) (align : Align) (first : ℕ) → header_len (begins header align first) ≡ header_len header
laid_len header align first =
    let new = canon_len (begins header align first) in
    grind (arith, nat_tests, canon_len header, list_len header.version 11 (λ v. variable (begins header align first) v) (placed header align first 0 header.vars), begins header align first, placed header align first 0 header.vars, list_len header.version 11 (λ v. variable header v) header.vars, placed_sum (λ v. length (variable header v)) (λ v b. variable_len header (at_begin v b) ∙ sym (variable_len header v)) header align first 0 header.vars, variable_len header, at_begin)

pub counts_kept : (header : Header) (align : Align) (first : ℕ) → counts_are_small (begins header align first) ≡ counts_are_small header
counts_kept header align first = grind (arith, nat_tests, length-placed, placed_all)
