-- The pair of variables that is computed is the least pair that shares a byte, and there is none where none is computed.
use Rattle.serial_spec.proofs.Words.{◌≡◌, ℕ, zero, suc, ◌+◌, ◌<◌, ◌≤◌, refl, ◌∙◌, ap, inl, inr, ◌⊎◌, List, [], ◌∷◌, true, false, Some, None, arith, slice_get, nat_lt, IsTrue, told_else, both_none, Header, Var, share, sharing, sharing_with, sharing_from, Shares, IsSharing, nat_tests, some_or_none, first_counts, second_counts, holds_or_not, ltb-false}
use Rattle.serial_spec.proofs.ApartLaws.{none_with}

-- the variable shares bytes with the one that stands there
abbrev Partner : Header → Var → List Var → ℕ → Type 0
Partner header v ws j = (w : Var) × (slice_get ws j ≡ Some w) × (share header v w ≡ true)

-- `Shares` over a list of variables, and the same place by place
abbrev SharesOf : Header → ℕ → List Var → ℕ → ℕ → Type 0
SharesOf header first vs i j =
    (v : Var) × (slice_get vs i ≡ Some v)
    × (((j ≡ i) × (v.begin < first)) ⊎ ((i < j) × (w : Var) × (slice_get vs j ≡ Some w) × IsTrue (share header v w)))

abbrev SharesIn : Header → ℕ → List Var → ℕ → ℕ → Type 0
SharesIn header first [] i j = ⊥
SharesIn header first (v ∷ vs) zero zero = v.begin < first
SharesIn header first (v ∷ vs) zero (suc j) = Partner header v vs j
SharesIn header first (v ∷ vs) (suc i) zero = ⊥
SharesIn header first (v ∷ vs) (suc i) (suc j) = SharesIn header first vs i j

shares_in : (header : Header) (first : ℕ) (vs : List Var) (i j : ℕ) → SharesOf header first vs i j → SharesIn header first vs i j
shares_in header first [] i j (x, g, s) = absurd cc
shares_in header first (v ∷ vs) zero zero s = grind (arith, nat_tests)
shares_in header first (v ∷ vs) zero (suc j) (x, g, inl (e, l)) = absurd (omega arith)
shares_in header first (v ∷ vs) zero (suc j) (x, g, inr (l, w, f, s)) = (w, f, grind (arith, nat_tests))
shares_in header first (v ∷ vs) (suc i) zero s = grind (arith, nat_tests)
shares_in header first (v ∷ vs) (suc i) (suc j) (x, g, inl (e, l)) = shares_in header first vs i j (x, g, inl (omega arith, l))
shares_in header first (v ∷ vs) (suc i) (suc j) (x, g, inr (l, w, f, s)) = shares_in header first vs i j (x, g, inr (omega arith, w, f, s))

shares_of : (header : Header) (first : ℕ) (vs : List Var) (i j : ℕ) → SharesIn header first vs i j → SharesOf header first vs i j
shares_of header first [] i j s = absurd s
shares_of header first (v ∷ vs) zero zero l = (v, refl, inl (refl, l))
shares_of header first (v ∷ vs) zero (suc j) (w, f, s) = (v, refl, inr (omega arith, w, f, s))
shares_of header first (v ∷ vs) (suc i) zero s = absurd s
shares_of header first (v ∷ vs) (suc i) (suc j) s = grind (arith, nat_tests, shares_of header first vs i j s)

record IsLeast (header : Header) (first : ℕ) (vs : List Var) (i j : ℕ) : Type 0 where
  pair : SharesIn header first vs i j
  least_first : (a b : ℕ) → SharesIn header first vs a b → i ≤ a
  least_second : (b : ℕ) → SharesIn header first vs i b → j ≤ b

-- ---- the first partner of one variable

first_partner : (header : Header) (v : Var) (k m : ℕ) (ws : List Var) (p : ℕ × ℕ) → sharing_with header v k m ws ≡ Some p
    → (j : ℕ) × (p ≡ (k, m + j)) × Partner header v ws j × ((b : ℕ) → Partner header v ws b → j ≤ b)
first_partner header v k m [] p h = absurd cc
first_partner header v k m (w ∷ ws) p h = elim (holds_or_not (share header v w)) [
  | inl e ↦
      (grind (arith, nat_tests))
  | inr e ↦
      (let found = first_partner header v k (suc m) ws p (rw e at h) in
      (suc found.0, grind (arith, nat_tests, found.1), found.2, later found.0 found.3 e))
]
  where
    later : (j : ℕ) → ((b : ℕ) → Partner header v ws b → j ≤ b) → share header v w ≡ false → (b : ℕ) → Partner header v (w ∷ ws) b → suc j ≤ b
    later j low e zero (x, g, s) = grind (arith, nat_tests)
    later j low e (suc b) s = let l = low b s in omega arith

-- ---- the least pair of a list

-- a variable that neither begins in the header nor has a partner stands first in no pair
stands_alone : (header : Header) (first k m : ℕ) (v : Var) (vs : List Var) → nat_lt v.begin first ≡ false → sharing_with header v k m vs ≡ None
    → (b : ℕ) → SharesIn header first (v ∷ vs) zero b → ⊥
stands_alone header first k m v vs e none b l = grind (arith, nat_tests, none_with)

abbrev Found : Header → ℕ → ℕ → List Var → ℕ × ℕ → Type 0
Found header first k vs p = (i : ℕ) × (j : ℕ) × (p ≡ (k + i, k + j)) × IsLeast header first vs i j

in_header : (header : Header) (first k : ℕ) (v : Var) (vs : List Var) → nat_lt v.begin first ≡ true → Found header first k (v ∷ vs) (k, k)
in_header header first k v vs e = grind (arith, nat_tests)

with_partner : (header : Header) (first k : ℕ) (v : Var) (vs : List Var) (p : ℕ × ℕ) → nat_lt v.begin first ≡ false
    → sharing_with header v k (suc k) vs ≡ Some p → Found header first k (v ∷ vs) p
with_partner header first k v vs p e h =
    let found = first_partner header v k (suc k) vs p h in
    (0, suc found.0, grind (arith, nat_tests, found.1), record { pair = found.2; least_first = λ a b s. omega arith; least_second = second found.0 found.3 })
  where
    second : (j : ℕ) → ((b : ℕ) → Partner header v vs b → j ≤ b) → (b : ℕ) → SharesIn header first (v ∷ vs) zero b → suc j ≤ b
    second j low zero l = absurd (omega (arith, l, ltb-false v.begin first e))
    second j low (suc b) s = let l = low b s in omega arith

further : (header : Header) (first k : ℕ) (v : Var) (vs : List Var) (p : ℕ × ℕ) → nat_lt v.begin first ≡ false
    → sharing_with header v k (suc k) vs ≡ None → Found header first (suc k) vs p → Found header first k (v ∷ vs) p
further header first k v vs p e none (i, j, f, least) =
    let alone = stands_alone header first k (suc k) v vs e none in
    (suc i, suc j, grind (arith, nat_tests), record { pair = least.pair; least_first = λ a b s. grind (arith, nat_tests, alone, least.least_first); least_second = λ b s. grind (arith, nat_tests, least.least_second) })

least_of : (header : Header) (first k : ℕ) (vs : List Var) (p : ℕ × ℕ) → sharing_from header first k vs ≡ Some p → Found header first k vs p
least_of header first k [] p h = absurd cc
least_of header first k (v ∷ vs) p h =
    grind (arith, nat_tests, holds_or_not (nat_lt v.begin first), in_header header first k v vs, some_or_none (sharing_with header v k (suc k) vs), with_partner header first k v vs p, first_counts, further header first k v vs p, least_of header first (suc k) vs p, second_counts)

no_pair : (header : Header) (first k : ℕ) (vs : List Var) → sharing_from header first k vs ≡ None → (a b : ℕ) → SharesIn header first vs a b → ⊥
no_pair header first k [] h a b s = absurd s
no_pair header first k (v ∷ vs) h zero b s = grind (arith, nat_tests, told_else, stands_alone, both_none)
no_pair header first k (v ∷ vs) h (suc a) b s = grind (arith, nat_tests, told_else, no_pair header first (suc k) vs, both_none)

-- ---- the law

pub sharing_found : (header : Header) (first k m : ℕ) → sharing header first ≡ Some (k, m) → IsSharing header first k m
sharing_found header first k m h =
    let found = least_of header first 0 header.vars (k, m) h in
    let there : IsLeast header first header.vars k m = grind (arith, nat_tests, found.2, found.3) in
    record {
      pair = shares_of header first header.vars k m there.pair;
      least_first = λ a b s. there.least_first a b (shares_in header first header.vars a b s);
      least_second = λ b s. there.least_second b (shares_in header first header.vars k b s);
    }

pub sharing_none : (header : Header) (first : ℕ) → sharing header first ≡ None → (k m : ℕ) → Shares header first k m → ⊥
sharing_none header first h k m s = no_pair header first 0 header.vars h k m (shares_in header first header.vars k m s)

same_least : (header : Header) (first : ℕ) (p q : ℕ × ℕ) → IsSharing header first p.0 p.1 → IsSharing header first q.0 q.1 → p ≡ q
same_least header first p q a b = grind (arith, nat_tests, a.least_first q.0 q.1 b.pair, b.least_first p.0 p.1 a.pair, a.least_second q.1, b.least_second p.1, a.pair, b.pair)

pub sharing_only : (header : Header) (first k m : ℕ) → IsSharing header first k m → sharing header first ≡ Some (k, m)
sharing_only header first k m s = elim (some_or_none (sharing header first)) [
  | inl n ↦ absurd (sharing_none header first n k m s.pair)
  | inr o ↦ o.1 ∙ ap Some (same_least header first o.0 (k, m) (sharing_found header first o.0.0 o.0.1 o.1) s)
]
