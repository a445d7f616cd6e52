-- What a sound header bounds.
use Rattle.var_layout.proofs.Words.{◌≡◌, ℕ, zero, suc, ◌+◌, ◌-◌, ◌*◌, ◌^◌, ◌<◌, ◌≤◌, List, [], ◌∷◌, length, take, drop, get_or, map, true, false, cond, Option, Some, None, refl, sym, subst, arith, count_by, sum_by, ◌==◌, slice_get, IfSome, nat_tests, take_all, drop_more, length-map, length-filter, sum_by-cons, sum_by_more, not-false, slab_below, none_of_test, both_none, untold, told_unless, and_first, and_second, or_first_false, Header, Var, slab, vsize, is_record, recsize, record_size, record_slabs, record_variables, record_share, last_share, round_up, header_len, measure, past_bound, keeps_bound, is_sound, capped, ltb-true}
use Rattle.nc_base.specs.declared.errors.HeaderErr.TheVariants as fault

-- ---- each variable keeps its bound

pub measured : (header : Header) → is_sound header ≡ true → measure header ≡ None
measured header h = grind (arith, nat_tests, none_of_test, and_second, both_none, not-false, or_first_false, untold)

pub header_short : (header : Header) → is_sound header ≡ true → header_len header ≤ 2 ^ 20
header_short header h = grind (arith, nat_tests, and_second, and_first)

pub record Keeps (header : Header) (before : ℕ) (v : Var) : Type 0 where
  pub size : vsize header v < 2 ^ 62
  pub end : v.begin + vsize header v < 2 ^ 62
  pub records : is_record header v ≡ true → before + vsize header v < 2 ^ 62
  pub last : is_record header v ≡ true → 0 < header.records → v.begin + (header.records - 1) * recsize header + last_share header v < 2 ^ 62

pub keeps : (header : Header) (before : ℕ) (v : Var) → keeps_bound header before v ≡ true → Keeps header before v
keeps header before v h = grind (arith, nat_tests, and_first, ltb-true, and_second)

kept : (header : Header) (before n : ℕ) (vs : List Var) (k : ℕ) (v : Var) → past_bound header before n vs ≡ None → slice_get vs k ≡ Some v → (seen : ℕ) × Keeps header seen v
kept header before n [] k v h g = cc
kept header before n (w ∷ vs) zero v h g = grind (arith, nat_tests, told_unless, keeps)
kept header before n (w ∷ vs) (suc k) v h g = kept header (before + record_share header w) (suc n) vs k v (told_unless (keeps_bound header before w) _ _ h).1 g

pub var_kept : (header : Header) (k : ℕ) (v : Var) → is_sound header ≡ true → slice_get header.vars k ≡ Some v → (seen : ℕ) × Keeps header seen v
var_kept header k v h g = kept header 0 0 header.vars k v (measured header h) g

pub vsize_small : (header : Header) (k : ℕ) (v : Var) → is_sound header ≡ true → slice_get header.vars k ≡ Some v → vsize header v < 2 ^ 62
vsize_small header k v h g = (var_kept header k v h g).1.size

pub slab_small : (header : Header) (k : ℕ) (v : Var) → is_sound header ≡ true → slice_get header.vars k ≡ Some v → slab header v < 2 ^ 62
slab_small header k v h g = let l = vsize_small header k v h g in let m = slab_below header v in omega arith

-- ---- one variable on, as the loop goes

one_on : (header : Header) (vars : List Var) (k : ℕ) (v : Var) → k < length vars → v ≡ get_or vars k v
    → past_bound header (sum_by (λ w. record_share header w) (take k vars)) k (drop k vars)
    ≡ cond (keeps_bound header (sum_by (λ w. record_share header w) (take k vars)) v)
    (past_bound header (sum_by (λ w. record_share header w) (take (k + 1) vars)) (k + 1) (drop (k + 1) vars)) (Some k)
one_on header vars k v h e =
    let next : suc k ≡ k + 1 = omega arith in
    rw (drop_more vars k v h, sum_by_more (λ w. record_share header w) vars k v h, next, ← e) refl

pub stops_at : (header : Header) (vars : List Var) (k : ℕ) (v : Var) → k < length vars → v ≡ get_or vars k v
    → keeps_bound header (sum_by (λ w. record_share header w) (take k vars)) v ≡ false
    → past_bound header (sum_by (λ w. record_share header w) (take k vars)) k (drop k vars) ≡ Some k
stops_at header vars k v h e f = grind (arith, nat_tests, one_on header vars k v h e)

pub goes_on_at : (header : Header) (vars : List Var) (k : ℕ) (v : Var) → k < length vars → v ≡ get_or vars k v
    → keeps_bound header (sum_by (λ w. record_share header w) (take k vars)) v ≡ true
    → past_bound header (sum_by (λ w. record_share header w) (take k vars)) k (drop k vars)
    ≡ past_bound header (sum_by (λ w. record_share header w) (take (k + 1) vars)) (k + 1) (drop (k + 1) vars)
goes_on_at header vars k v h e f = grind (arith, nat_tests, one_on header vars k v h e)

-- ---- a record

pub shares_small : (header : Header) (before n : ℕ) (vs : List Var) → past_bound header before n vs ≡ None → before < 2 ^ 62
    → before + sum_by (λ v. record_share header v) vs < 2 ^ 62
shares_small header before n [] h l = omega arith
shares_small header before n (v ∷ vs) h l =
    let both = told_unless (keeps_bound header before v) _ _ h in
    grind (arith, nat_tests, keeps header before v both.0, shares_small header (before + record_share header v) (suc n) vs both.1, sum_by-cons (λ w. record_share header w) v vs)

-- the shares of all variables are the vsizes of the record variables
pub shares_are : (header : Header) (vs : List Var) → sum_by (λ v. record_share header v) vs ≡ sum_by (λ v. vsize header v) (record_variables header vs)
shares_are header [] = refl
shares_are header (v ∷ vs) = grind (arith, nat_tests, sum_by-cons (λ w. record_share header w) v vs, shares_are header vs, sum_by-cons (λ w. vsize header w) v (record_variables header vs))

padded_slabs : (header : Header) (vs : List Var) → sum_by (λ s. round_up 4 s) (map (λ v. slab header v) vs) ≡ sum_by (λ v. vsize header v) vs
padded_slabs header [] = refl
padded_slabs header (v ∷ vs) =
    rw (sum_by-cons (λ s. round_up 4 s) (slab header v) (map (λ w. slab header w) vs), padded_slabs header vs, sum_by-cons (λ w. vsize header w) v vs) refl

pub recsize_below : (header : Header) → recsize header ≤ sum_by (λ v. record_share header v) header.vars
recsize_below header = grind (arith, nat_tests, slab_below, padded_slabs, shares_are)

pub recsize_small : (header : Header) → is_sound header ≡ true → recsize header < 2 ^ 62
recsize_small header h = grind (arith, nat_tests, recsize_below, shares_small, measured)

-- the size of a record is the sum of the shares
sizes_shared : (header : Header) (vs : List Var)
    → record_size (map (λ v. slab header v) vs) ≡ sum_by (λ v. cond (length (map (λ w. slab header w) vs) == 1) (slab header v) (vsize header v)) vs
sizes_shared header [] = refl
sizes_shared header (v ∷ []) = omega arith
sizes_shared header (v ∷ w ∷ vs) = grind (arith, nat_tests, padded_slabs header (v ∷ w ∷ vs))

pub recsize_shared : (header : Header) → recsize header ≡ sum_by (λ v. last_share header v) (record_variables header header.vars)
recsize_shared header = sizes_shared header (record_variables header header.vars)

-- all of them, at the end of a loop
pub recsize_whole : (header : Header) (n : ℕ) → length header.vars ≤ n
    → capped (sum_by (λ v. last_share header v) (record_variables header (take n header.vars))) ≡ capped (recsize header)
recsize_whole header n h = grind (arith, nat_tests, take_all, recsize_shared)

pub slab_count : (header : Header) → length (record_slabs header) ≡ count_by (λ v. is_record header v) header.vars
slab_count header = grind (arith, nat_tests, length-map, length-filter)

-- ---- a variable by its number

pub if_there : {A : Type 0} (o : Option A) (x : A) (P : A → Type 0) → o ≡ Some x → P x → IfSome o P
if_there {A} o x P e p = subst (λ (q : Option A). IfSome q P) (sym e) p
