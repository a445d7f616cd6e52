-- A header with other begins: what does not look at them stays.
use Rattle.std.proofs.lemmas.List.FromFn.{length-enumerate_from}
use Rattle.redef_laws.proofs.Words.{common_steps, ◌≡◌, ℕ, zero, suc, ◌+◌, List, [], ◌∷◌, length, map, Some, refl, sym, ap, ◌∙◌, arith, sum_by, slice_get, enumerate_from, AllByRecursion, sum_by-cons, Header, Var, slab, recsize, record_size, record_variables, header_len, variable, begin_of_number, with_begins, list_len, variable_len, canon_len, at_begin, nat_tests}

-- variables of which the first has number n, with the begins that are found
abbrev pub rebegun : List (ℕ × ℕ) → ℕ → List Var → List Var
rebegun found n vs = map (λ v. record v.1 { begin = begin_of_number found v.0 }) (enumerate_from n vs)

pub rebegun_each : (P : Var → Type 0) → ((v : Var) (b : ℕ) → P v → P (at_begin v b)) → (found : List (ℕ × ℕ)) (n : ℕ) (vs : List Var)
    → AllByRecursion P vs → AllByRecursion P (rebegun found n vs)
rebegun_each P keep found n [] all = tt
rebegun_each P keep found n (v ∷ vs) all = (keep v (begin_of_number found n) all.0, rebegun_each P keep found (n + 1) vs all.1)

pub rebegun_long : (found : List (ℕ × ℕ)) (n : ℕ) (vs : List Var) → length (rebegun found n vs) ≡ length vs
rebegun_long found n vs = grind (arith, common_steps, length-enumerate_from)

rebegun_sum : (f : Var → ℕ) → ((v : Var) (b : ℕ) → f (at_begin v b) ≡ f v) → (found : List (ℕ × ℕ)) (n : ℕ) (vs : List Var)
    → sum_by f (rebegun found n vs) ≡ sum_by f vs
rebegun_sum f same found n [] = refl
rebegun_sum f same found n (v ∷ vs) = grind (arith, nat_tests, rebegun_sum f same found (n + 1) vs, sum_by-cons, at_begin)

pub rebegun_at : (found : List (ℕ × ℕ)) (n : ℕ) (vs : List Var) (k : ℕ) (w : Var) → slice_get (rebegun found n vs) k ≡ Some w
    → (v : Var) × (slice_get vs k ≡ Some v) × (at_begin v (begin_of_number found (n + k)) ≡ w)
rebegun_at found n [] k w h = absurd cc
rebegun_at found n (v ∷ vs) zero w h =
    (v, refl, ap (λ (m : ℕ). at_begin v (begin_of_number found m)) (let e : n + 0 ≡ n = omega arith in e) ∙ (let e : at_begin v (begin_of_number found n) ≡ w = cc in e))
rebegun_at found n (v ∷ vs) (suc k) w h = grind (arith, nat_tests, rebegun_at found (n + 1) vs k w h, at_begin)

pub rebegun_slabs : (header : Header) (found : List (ℕ × ℕ)) (n : ℕ) (vs : List Var)
    → map (λ v. slab header v) (record_variables header (rebegun found n vs)) ≡ map (λ v. slab header v) (record_variables header vs)
rebegun_slabs header found n [] = refl
rebegun_slabs header found n (v ∷ vs) = grind (arith, nat_tests, rebegun_slabs header found (n + 1) vs, at_begin)

pub rebegun_recsize : (header : Header) (found : List (ℕ × ℕ)) → recsize (with_begins header found) ≡ recsize header
rebegun_recsize header found = ap (λ ns. record_size ns) (rebegun_slabs header found 0 header.vars)

pub rebegun_len : (header : Header) (found : List (ℕ × ℕ)) → header_len (with_begins header found) ≡ header_len header
rebegun_len header found =
    let new = canon_len (with_begins header found) in
    let old = canon_len header in
    let new_list = list_len header.version 11 (λ v. variable (with_begins header found) v) (rebegun found 0 header.vars) in
    let old_list = list_len header.version 11 (λ v. variable header v) header.vars in
    let same = rebegun_sum (λ v. length (variable header v)) (λ v b. variable_len header (at_begin v b) ∙ sym (variable_len header v)) found 0 header.vars in
    omega (arith, new, old, new_list, old_list, same)
