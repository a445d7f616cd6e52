-- No variable of a header is empty whose record dimension stands only first.
use Rattle.cdf_header.proofs.Words.{◌≡◌, ℕ, zero, suc, ◌≤◌, List, [], ◌∷◌, drop, map, arith, false, or_parts, slice_get, ◌==◌, AllByRecursion, list_any, mul-le-mul_left, Header, Var, inner_lengths, length_of, product, without_record, is_record_id, record_later, not_zero}

pub product-pos : (ns : List ℕ) → AllByRecursion (λ n. 1 ≤ n) ns → 1 ≤ product ns
product-pos [] h = omega arith
product-pos (n ∷ ns) h = let rest = product-pos ns h.1 in omega (arith, mul-le-mul_left n rest, h.0)

-- lengths of which none is zero
none_zero : (f : ℕ → ℕ) (ids : List ℕ) → list_any (λ id. f id == 0) ids ≡ false → AllByRecursion (λ n. 1 ≤ n) (map f ids)
none_zero f [] h = tt
none_zero f (i ∷ ids) h = let parts = or_parts (f i == 0) (list_any (λ id. f id == 0) ids) h in (not_zero (f i) parts.0, none_zero f ids parts.1)

inner_of : (n : ℕ) (ns : List ℕ) → AllByRecursion (λ m. 1 ≤ m) ns → AllByRecursion (λ m. 1 ≤ m) (without_record (n ∷ ns))
inner_of zero ns h = h
inner_of (suc n) ns h = (omega arith, h)

inner_ids-pos : (h : Header) (ids : List ℕ) → list_any (λ id. is_record_id h id) (drop 1 ids) ≡ false
    → AllByRecursion (λ n. 1 ≤ n) (without_record (map (λ id. length_of (slice_get h.dims id)) ids))
inner_ids-pos h [] e = tt
inner_ids-pos h (i ∷ ids) e = inner_of (length_of (slice_get h.dims i)) _ (none_zero (λ id. length_of (slice_get h.dims id)) ids e)

-- Where the record dimension stands in no later place, no inner length is zero.
pub inner-pos : (h : Header) (v : Var) → record_later h v ≡ false → AllByRecursion (λ n. 1 ≤ n) (inner_lengths h v)
inner-pos h v e = inner_ids-pos h v.dims e
