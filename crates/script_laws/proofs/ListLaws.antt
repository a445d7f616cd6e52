-- Lists whose elements all are of one kind.
use Rattle.script_laws.proofs.Words.{◌≡◌, ℕ, zero, suc, ◌+◌, ◌≤◌, cond, sum, count_by, arith, List, [], ◌∷◌, ◌++◌, map, Bool, true, false, Option, Some, IfSome, slice_get, slice_set, AllByRecursion, list_any, list_all, sum_by-cons, sum_by_push, same_Some, all_some, each_passes, each_fails, each_weaker, map_push, ◌∙◌, ap, nat_tests, common_steps}

-- ---- all of them

pub all_both : {A : Type 0} (P Q : A → Type 0) (xs : List A) → AllByRecursion P xs → AllByRecursion Q xs → AllByRecursion (λ x. P x × Q x) xs
all_both P Q [] h k = tt
all_both P Q (x ∷ xs) h k = ((h.0, k.0), all_both P Q xs h.1 k.1)

pub all_set : {A : Type 0} (P : A → Type 0) (xs : List A) (k : ℕ) (x : A) → AllByRecursion P xs → P x → AllByRecursion P (slice_set xs k x)
all_set P [] k x h p = tt
all_set P (y ∷ ys) k x h p = grind (arith, common_steps, all_set P ys k x h.1 p)

-- ---- the same as tests

pub all_pass : {A : Type 0} (test : A → Bool) (P : A → Type 0) → ((x : A) → P x → test x ≡ true) → (xs : List A) → AllByRecursion P xs → list_all test xs ≡ true
all_pass test P f xs h = each_passes test xs (each_weaker P (λ x. test x ≡ true) f xs h)

pub none_passes : {A : Type 0} (test : A → Bool) (P : A → Type 0) → ((x : A) → P x → test x ≡ false) → (xs : List A) → AllByRecursion P xs → list_any test xs ≡ false
none_passes test P f xs h = each_fails test xs (each_weaker P (λ x. test x ≡ false) f xs h)

-- ---- what is found of each

pub found_all : {A B : Type 0} (P : A → Type 0) (f : B → Option A) → ((b : B) (x : A) → f b ≡ Some x → P x) → (bs : List B) → IfSome (all_some (map f bs)) (λ xs. AllByRecursion P xs)
found_all P f h [] = tt
found_all P f h (b ∷ bs) = grind (arith, nat_tests, found_all P f h bs)

-- ---- sums

pub count_more : {A : Type 0} (p : A → Bool) (xs : List A) (x : A) → count_by p (xs ++ x ∷ []) ≡ count_by p xs + cond (p x) 1 0
count_more p xs x = sum_by_push (λ y. cond (p y) 1 0) xs x

pub sum_cons : {A : Type 0} (f : A → ℕ) (x : A) (xs : List A) → sum (map f (x ∷ xs)) ≡ f x + sum (map f xs)
sum_cons f x xs = sum_by-cons (λ n. n) (f x) (map f xs)

pub sum_more : {A : Type 0} (f : A → ℕ) (xs : List A) (x : A) → sum (map f (xs ++ x ∷ [])) ≡ sum (map f xs) + f x
sum_more f xs x = ap sum (map_push f xs x) ∙ sum_by_push (λ n. n) (map f xs) (f x)

-- one of them changes, by so much at most
pub sum_set : {A : Type 0} (f : A → ℕ) (xs : List A) (k n : ℕ) (x y : A) → slice_get xs k ≡ Some x → f y ≤ f x + n → sum (map f (slice_set xs k y)) ≤ sum (map f xs) + n
sum_set f [] k n x y e h = absurd (cc)
sum_set f (z ∷ zs) zero n x y e h = omega (arith, sum_cons f y zs, sum_cons f z zs, ap f (same_Some z x e))
sum_set f (z ∷ zs) (suc k) n x y e h = omega (arith, sum_cons f z (slice_set zs k y), sum_cons f z zs, sum_set f zs k n x y e h)
