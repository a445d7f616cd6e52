-- One attribute more of a variable, and how many values attributes have.
use Rattle.script_spelling.proofs.Words.{◌≡◌, ℕ, zero, suc, ◌+◌, List, [], ◌∷◌, ◌++◌, position, Some, slice_get, slice_set, refl, arith, bytes_eq, Attr, Var, var_names, with_attr_at, nat_tests, map, sum, sum_cons, sum_more, attr_values}
use Rattle.script_spelling.proofs.Places.{bytes_same, place_cases}

-- one attribute more of the variable at this place
abbrev pub with_own : Attr → Var → Var
with_own a v = record v { attrs = v.attrs ++ a ∷ [] }

abbrev pub push_attr : ℕ → Attr → List Var → List Var
push_attr k a [] = []
push_attr zero a (v ∷ vs) = with_own a v ∷ vs
push_attr (suc k) a (v ∷ vs) = v ∷ push_attr k a vs

pub pushes : (k : ℕ) (a : Attr) (vs : List Var) → with_attr_at k a vs ≡ push_attr k a vs
pushes k a [] = refl
pushes zero a (v ∷ vs) = refl
pushes (suc k) a (v ∷ vs) = grind (arith, nat_tests, pushes k a vs, slice_get, slice_set)

abbrev pub NameAt : List Var → ℕ → List ℕ → Type 0
NameAt [] k n = ⊥
NameAt (v ∷ vs) zero n = n ≡ v.name
NameAt (v ∷ vs) (suc k) n = NameAt vs k n

pub found_name : (n : List ℕ) (vs : List Var) (k : ℕ) → position (bytes_eq n) (var_names vs) ≡ Some k → NameAt vs k n
found_name n [] k h = absurd (cc)
found_name n (v ∷ vs) k h = grind (arith, nat_tests, place_cases (bytes_eq n) v.name (var_names vs) k h, found_name n vs, bytes_same)

abbrev pub own_values : List Var → ℕ
own_values vars = sum (map (λ (v : Var). attr_values v.attrs) vars)

pub count-pushed : (k : ℕ) (n : List ℕ) (a : Attr) (vs : List Var) → NameAt vs k n → own_values (push_attr k a vs) ≡ own_values vs + a.count
count-pushed k n a [] at = absurd at
count-pushed zero n a (v ∷ vs) at =
    omega (arith, sum_more (λ (x : Attr). x.count) v.attrs a, sum_cons (λ (x : Var). attr_values x.attrs) v vs, sum_cons (λ (x : Var). attr_values x.attrs) (with_own a v) vs)
count-pushed (suc k) n a (v ∷ vs) at =
    omega (arith, count-pushed k n a vs at, sum_cons (λ (x : Var). attr_values x.attrs) v vs, sum_cons (λ (x : Var). attr_values x.attrs) v (push_attr k a vs))
