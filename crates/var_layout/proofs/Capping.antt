-- Capped sums and products, one step at a time.
use Rattle.var_layout.proofs.Words.{◌≡◌, ℕ, ◌+◌, ◌*◌, ◌<◌, List, [], ◌∷◌, ◌++◌, length, take, get_or, map, Bool, true, false, refl, sym, ap, ◌∙◌, arith, max, sum_by, filter, take_more, map-append, append-nil, sum_by_more, sum_by_push, filter_more, cases_lt, mul_comm, mul_assoc, mul-one, product, greatest, capped, nat_tests}

pub capped_sum : (a b : ℕ) → capped (capped a + b) ≡ capped (a + b)
capped_sum a b = omega arith

pub capped_both : (a b : ℕ) → capped (capped a + capped b) ≡ capped (a + b)
capped_both a b = omega arith

capped_product : (a b : ℕ) → capped (capped a * b) ≡ capped (a * b)
capped_product a b = grind (arith, nat_tests, cases_lt)

pub capped_times : (a b s : ℕ) → s ≡ capped b → capped (a * s) ≡ capped (a * b)
capped_times a b s e = grind (arith, nat_tests, mul_comm, capped_product)

greatest-push : (xs : List ℕ) (y : ℕ) → greatest (xs ++ y ∷ []) ≡ max (greatest xs) y
greatest-push [] y = omega arith
greatest-push (x ∷ xs) y = let rest = greatest-push xs y in omega arith

-- the greatest of one more
pub capped_greatest_more : {A : Type 0} (f : A → ℕ) (xs : List A) (i : ℕ) (d : A) (first e n : ℕ) → i < length xs
    → e ≡ capped (max first (greatest (map f (take i xs)))) → n ≡ capped (f (get_or xs i d))
    → max e n ≡ capped (max first (greatest (map f (take (i + 1) xs))))
capped_greatest_more f xs i d first e n h g k =
    grind (arith, nat_tests, take_more xs i d h, map-append f (take i xs) (get_or xs i d ∷ []), greatest-push (map f (take i xs)) (f (get_or xs i d)))

pub product-append : (xs ys : List ℕ) → product (xs ++ ys) ≡ product xs * product ys
product-append [] ys = omega arith
product-append (x ∷ xs) ys = ap (λ (n : ℕ). x * n) (product-append xs ys) ∙ sym (mul_assoc x (product xs) (product ys))

pub product_more : (xs : List ℕ) (i d : ℕ) → i < length xs → product (take (i + 1) xs) ≡ product (take i xs) * get_or xs i d
product_more xs i d h = grind (arith, nat_tests, take_more xs i d h, product-append (take i xs) (get_or xs i d ∷ []), mul-one (get_or xs i d))

product-map_more : {A : Type 0} (f : A → ℕ) (xs : List A) (i : ℕ) (d : A) → i < length xs
    → product (map f (take (i + 1) xs)) ≡ product (map f (take i xs)) * f (get_or xs i d)
product-map_more f xs i d h =
    rw (take_more xs i d h, map-append f (take i xs) (get_or xs i d ∷ []), product-append (map f (take i xs)) (f (get_or xs i d) ∷ []), mul-one (f (get_or xs i d))) refl

-- the capped product of one more length
pub capped_product_more : {A : Type 0} (f : A → ℕ) (xs : List A) (i : ℕ) (d : A) (n : ℕ) → i < length xs
    → n ≡ capped (product (map f (take i xs)))
    → capped (n * f (get_or xs i d)) ≡ capped (product (map f (take (i + 1) xs)))
capped_product_more f xs i d n h e = grind (arith, nat_tests, capped_product, product-map_more)

pub filter_yes : {A : Type 0} (p : A → Bool) (xs : List A) (i : ℕ) (d : A) → i < length xs → p (get_or xs i d) ≡ true
    → filter p (take (i + 1) xs) ≡ filter p (take i xs) ++ get_or xs i d ∷ []
filter_yes p xs i d h t = grind (arith, nat_tests, filter_more p xs i d h)

pub filter_no : {A : Type 0} (p : A → Bool) (xs : List A) (i : ℕ) (d : A) → i < length xs → p (get_or xs i d) ≡ false
    → filter p (take (i + 1) xs) ≡ filter p (take i xs)
filter_no p xs i d h t = grind (arith, nat_tests, filter_more p xs i d h, append-nil (filter p (take i xs)))

pub sum_filter_yes : {A : Type 0} (p : A → Bool) (f : A → ℕ) (xs : List A) (i : ℕ) (d : A) → i < length xs → p (get_or xs i d) ≡ true
    → sum_by f (filter p (take (i + 1) xs)) ≡ sum_by f (filter p (take i xs)) + f (get_or xs i d)
sum_filter_yes p f xs i d h t = grind (arith, nat_tests, filter_yes p xs i d h t, sum_by_push f (filter p (take i xs)) (get_or xs i d))

-- the capped sum of one more item
pub capped_sum_more : {A : Type 0} (f : A → ℕ) (xs : List A) (i : ℕ) (d : A) (a s n : ℕ) → i < length xs
    → s ≡ capped (a + sum_by f (take i xs)) → n ≡ capped (f (get_or xs i d))
    → capped (s + n) ≡ capped (a + sum_by f (take (i + 1) xs))
capped_sum_more f xs i d a s n h e g = let more = sum_by_more f xs i d h in omega arith
