-- The end of a file by the measures of its header.
use Rattle.var_layout.proofs.Words.{◌≡◌, ℕ, suc, ◌+◌, ◌-◌, ◌*◌, ◌<◌, ◌≤◌, List, [], ◌∷◌, map, cond, refl, arith, inr, ◌⊎◌, max, Header, Var, header_len, greatest, is_record, vsize, last_share, recsize, record_variables, end_of, end_of_var, capped, first_end, record_end, equal_suc, nat_tests}
use Rattle.var_layout.proofs.Capping.{capped_times}

-- ---- later records move the ends of the record variables alone

abbrev ends : Header → ℕ → List Var → ℕ
ends header n vs = greatest (map (λ v. end_of_var header n v) vs)

abbrev first_ends : Header → List Var → ℕ
first_ends header vs = greatest (map (λ v. first_end header v) vs)

later : (header : Header) (n : ℕ) (v : Var)
    → end_of_var header (suc n) v ≡ cond (is_record header v) (v.begin + n * recsize header + last_share header v) (v.begin + vsize header v)
later header n v = grind (arith, nat_tests, equal_suc)

moved : (header : Header) (n : ℕ) (vs : List Var)
    → max (n * recsize header) (ends header (suc n) vs) ≡ max (ends header 0 vs) (first_ends header vs + n * recsize header)
moved header n [] = omega arith
moved header n (v ∷ vs) = grind (arith, nat_tests, later, moved header n vs, v.begin, ends, first_ends)

-- so far a file goes at least, if there is a record variable
some_record : (header : Header) (n : ℕ) (vs : List Var) → (n * recsize header ≤ ends header (suc n) vs) ⊎ (record_variables header vs ≡ [])
some_record header n [] = inr refl
some_record header n (v ∷ vs) = grind (arith, nat_tests, some_record header n vs, later)

end_later : (header : Header) (first n : ℕ) → end_of header first (suc n) ≡ max (end_of header first 0) (record_end header + n * recsize header)
end_later header first n = grind (arith, nat_tests, some_record header n header.vars, moved header n header.vars)

end_after : (header : Header) (first n : ℕ) → 0 < n → end_of header first n ≡ max (end_of header first 0) (record_end header + (n - 1) * recsize header)
end_after header first n h = grind (arith, nat_tests, end_later header first (n - 1))

-- the end by capped measures: the size of a record, the end of the fixed variables and that of the record variables
pub capped_end_after : (header : Header) (n size fixed first later whole : ℕ) → 0 < n
    → size ≡ capped (recsize header) → fixed ≡ capped (end_of header (header_len header) 0) → first ≡ capped (record_end header)
    → later ≡ capped ((n - 1) * size) → whole ≡ capped (first + later) → max fixed whole ≡ capped (end_of header (header_len header) n)
capped_end_after header n size fixed first later whole h s f r l w = grind (arith, nat_tests, end_after, capped_times)
