-- An attribute more of one variable.
use Rattle.script_definitions.proofs.Words.{◌≡◌, ◌<◌, ◌∙◌, ℕ, zero, suc, List, [], ◌∷◌, ◌++◌, length, get_or, slice_set, Some, refl, sym, ap, arith, Var, Attr, var_names, with_attr_at, slice_get}

pub names_kept : (vars : List Var) (k : ℕ) (v w : Var) → v ≡ get_or vars k v → w.name ≡ v.name → k < length vars → var_names (slice_set vars k w) ≡ var_names vars
names_kept [] k v w at same h = refl
names_kept (x ∷ vars) zero v w at same h = ap (λ (n : List ℕ). n ∷ var_names vars) (same ∙ ap (λ (y : Var). y.name) at)
names_kept (x ∷ vars) (suc k) v w at same h = ap (λ (ns : List (List ℕ)). x.name ∷ ns) (names_kept vars k v w at same (omega arith))

found_var : (vars : List Var) (k : ℕ) (v : Var) → v ≡ get_or vars k v → k < length vars → slice_get vars k ≡ Some v
found_var [] k v at h = absurd (omega arith)
found_var (x ∷ vars) zero v at h = ap (λ (y : Var). Some y) (sym at)
found_var (x ∷ vars) (suc k) v at h = found_var vars k v at (omega arith)

pub attached : (vars : List Var) (k : ℕ) (v : Var) (a : Attr) → v ≡ get_or vars k v → k < length vars
    → slice_set vars k (record v { attrs = v.attrs ++ a ∷ [] }) ≡ with_attr_at k a vars
attached vars k v a at h = rw (found_var vars k v at h, with_attr_at) refl
