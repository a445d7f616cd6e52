-- Lists that are gathered one entry after another.
use Rattle.reference.proofs.Words.{In, inl, inr, ◌≡◌, ℕ, suc, ◌+◌, ◌-◌, ◌<◌, ◌≤◌, refl, sym, ap, ◌∙◌, List, [], ◌∷◌, ◌++◌, length, drop, get_or, map, max, greatest, drop_more, append-nil, append_assoc, add-one, length-append, Some, arith, flat_map, slice_get, range_with_len, drop_all, map-range_with_len_more, at, longer, read, drop_at, nat_tests}
use Rattle.list_laws.proofs.Appends.{then_append}
use Rattle.list_laws.proofs.Ranges.{range_push}

-- one byte of zero more
pub longer_push : (f : List ℕ) (n : ℕ) → length f < n → longer (f ++ 0 ∷ []) n ≡ longer f n
longer_push f n h =
    let long = length-append f (0 ∷ []) in
    let rest : n - length f ≡ suc (n - length (f ++ 0 ∷ [])) = omega (arith, long) in
    grind (arith, nat_tests, long, rest, append_assoc)

pub read_more : (file into into' old : List ℕ) (x k : ℕ) → into ≡ old ++ read file x k → into' ≡ into ++ at file (x + k) ∷ []
    → into' ≡ old ++ read file x (k + 1)
read_more file into into' old x k e f =
    then_append old into into' (read file x k) (at file (x + k) ∷ []) e f
    ∙ ap (λ (l : List ℕ). old ++ l) (sym (map-range_with_len_more (λ i. at file i) x k (x + k) (omega arith)))

pub range_more : (list list' old : List ℕ) (x k : ℕ) → list ≡ old ++ range_with_len x k → list' ≡ list ++ (x + k) ∷ []
    → list' ≡ old ++ range_with_len x (k + 1)
range_more list list' old x k e f = grind (arith, nat_tests, then_append old list list' (range_with_len x k) ((x + k) ∷ []) e f, range_push x k (x + k))

-- what is gathered, and what the entries that are left give, is the whole
pub gather_step : {A : Type 0} (f : ℕ → List A) (ps : List ℕ) (k x : ℕ) (out out' whole : List A) → slice_get ps k ≡ Some x → out' ≡ out ++ f x
    → out ++ flat_map f (drop k ps) ≡ whole → out' ++ flat_map f (drop (k + 1) ps) ≡ whole
gather_step {A} f ps k x out out' whole there e h = grind (arith, nat_tests, append_assoc out (f x) (flat_map f (drop (k + 1) ps)), add-one k, drop_at ps k x there)

-- none is left: what was gathered is the whole
pub none_left : {A B : Type 0} (f : List A → List B) (xs : List A) (i : ℕ) (out whole : List B) → f [] ≡ [] → length xs ≤ i → out ++ f (drop i xs) ≡ whole → out ≡ whole
none_left {A} {B} f xs i out whole e l h =
    sym (append-nil out) ∙ ap (λ (ys : List B). out ++ ys) (sym e) ∙ ap (λ (ys : List A). out ++ f ys) (sym (drop_all i xs l)) ∙ h

-- ---- one entry more

pub next_left : {A : Type 0} (xs : List A) (i : ℕ) (x d : A) → i < length xs → x ≡ get_or xs i d → drop i xs ≡ x ∷ drop (i + 1) xs
next_left {A} xs i x d h e = drop_more xs i d h ∙ ap (λ (y : A). y ∷ drop (i + 1) xs) (sym e)

-- the greatest number so far, and those of the entries that are left
pub greatest_step : {A : Type 0} (f : A → ℕ) (xs : List A) (i : ℕ) (x : A) (n m k w : ℕ) → i < length xs → x ≡ get_or xs i x → m ≡ f x → k ≡ max n m
    → max n (greatest (map f (drop i xs))) ≡ w → max k (greatest (map f (drop (i + 1) xs))) ≡ w
greatest_step {A} f xs i x n m k w h e g l so_far = grind (arith, nat_tests, next_left, drop)

pub greatest_end : {A : Type 0} (f : A → ℕ) (xs : List A) (i n w : ℕ) → length xs ≤ i → max n (greatest (map f (drop i xs))) ≡ w → n ≡ w
greatest_end {A} f xs i n w l h = let none = ap (λ (ys : List A). greatest (map f ys)) (drop_all i xs l) in omega (arith, none, h)

-- what zero has and two numbers hand on, the greatest has
pub greatest_has : {A : Type 0} (P : ℕ → Type 0) (f : A → ℕ) (xs : List A) → P 0 → ((a b : ℕ) → P a → P b → P (max a b)) → ((x : A) → In xs x → P (f x)) → P (greatest (map f xs))
greatest_has P f [] none both all = none
greatest_has P f (x ∷ xs) none both all = both (f x) (greatest (map f xs)) (all x (inl refl)) (greatest_has P f xs none both (λ y m. all y (inr m)))
