-- What a header has whose variables keep their bounds.
use Rattle.cdf_header.proofs.Words.{◌≡◌, ℕ, suc, ◌+◌, ◌^◌, ◌<◌, List, [], ◌∷◌, Bool, false, Option, Some, None, refl, arith, nat_le, ◌||◌, is_none, All, AllByRecursion, recsize_below, Keeps, keeps, shares_small, told_unless, slab_below, Header, Var, record_limit, slab, vsize, record_share, recsize, keeps_bound, past_bound, measure, is_too_large, not, common_steps}

-- of variables that keep their bounds each has what follows from that
each_keeps : (header : Header) (P : Var → Type 0) → ((before : ℕ) (v : Var) → Keeps header before v → P v)
    → (before k : ℕ) (vs : List Var) → past_bound header before k vs ≡ None → AllByRecursion P vs
each_keeps header P each before k [] h = tt
each_keeps header P each before k (v ∷ vs) h =
    let p = told_unless (keeps_bound header before v) (past_bound header (before + record_share header v) (suc k) vs) k h in
    (each before v (keeps header before v p.0), each_keeps header P each (before + record_share header v) (suc k) vs p.1)

-- each vsize is below 2^62
pub sizes_kept : (header : Header) → measure header ≡ None → AllByRecursion (λ v. vsize header v < 2 ^ 62) header.vars
sizes_kept header h = each_keeps header (λ v. vsize header v < 2 ^ 62) (λ before v k. k.size) 0 0 header.vars h

-- each variable ends below 2^62
pub bounds_kept : (header : Header) → measure header ≡ None → All (λ v. v.begin + slab header v < 2 ^ 62) header.vars
bounds_kept header h = grind (arith, common_steps, each_keeps header (λ v. v.begin + slab header v < 2 ^ 62), slab_below header)

no_limit : (o : Option ℕ) (t : Bool) → (not (is_none o) || t) ≡ false → o ≡ None
no_limit None t h = refl
no_limit (Some k) t h = absurd cc

pub is_measured : (header : Header) → is_too_large header ≡ false → measure header ≡ None
is_measured header h = no_limit (measure header) (nat_le (record_limit header.version) header.records) h

pub record_size_kept : (header : Header) → measure header ≡ None → recsize header < 2 ^ 62
record_size_kept header h = omega (arith, shares_small header 0 0 header.vars h (omega arith), recsize_below header)
