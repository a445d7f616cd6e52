-- A record grows by the variables that are added to it.
use Rattle.redef_laws.proofs.Words.{◌≡◌, ℕ, suc, ◌*◌, ◌≤◌, refl, List, [], ◌∷◌, ◌++◌, map, Some, None, arith, sum_by-cons, slice_get, filter, sum_by, Header, Var, size_of, product, without_record, lengths, is_record, slab, recsize, round_up, KeepsVars, nat_tests, common_steps}

pub same_slab : (old new : Header) (v w : Var) → w.kind ≡ v.kind → lengths new w ≡ lengths old v → slab new w ≡ slab old v
same_slab old new v w kind lens = λ t. product (without_record (lens t)) * size_of (kind t)

-- ---- the slabs of a record

abbrev sizes_in : Header → List Var → List ℕ
sizes_in header vars = map (λ v. slab header v) (filter (λ v. is_record header v) vars)

-- each variable stands in the other list too, of the same kind and lengths
abbrev StandIn : Header → Header → List Var → List Var → Type 0
StandIn old new vs ws = (k : ℕ) (v : Var) → slice_get vs k ≡ Some v → (w : Var) × (slice_get ws k ≡ Some w) × (w.kind ≡ v.kind) × (lengths new w ≡ lengths old v)

sizes_more : (old new : Header) (vs ws : List Var) → StandIn old new vs ws → (more : List ℕ) × (sizes_in new ws ≡ sizes_in old vs ++ more)
sizes_more old new [] ws h = (sizes_in new ws, refl)
sizes_more old new (v ∷ vs) [] h = absurd (let e : None ≡ Some (h 0 v refl).0 = (h 0 v refl).1 in cc)
sizes_more old new (v ∷ vs) (y ∷ ws) h =
    let rest = sizes_more old new vs ws (λ k x e. h (suc k) x e) in
    let found = h 0 v refl in
    grind (arith, nat_tests, same_slab, found.1, found.0, found.3, rest.0, found.2, rest.1, filter)

-- ---- their sum

sum_grows : (xs ys : List ℕ) → sum_by (λ n. round_up 4 n) xs ≤ sum_by (λ n. round_up 4 n) (xs ++ ys)
sum_grows [] ys = omega arith
sum_grows (n ∷ xs) ys = omega (arith, sum_grows xs ys, sum_by-cons (λ n. round_up 4 n) n xs, sum_by-cons (λ n. round_up 4 n) n (xs ++ ys))

pub record_grows : (old new : Header) → KeepsVars old new → recsize old ≤ recsize new
record_grows old new keeps = grind (arith, nat_tests, sizes_more, sum_grows, common_steps)
