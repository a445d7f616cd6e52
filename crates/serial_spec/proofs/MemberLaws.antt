-- The items of a list, by their places, and those that pass a test.
use Rattle.serial_spec.proofs.Words.{◌≡◌, ℕ, suc, ap, List, [], ◌∷◌, Bool, true, Some, inl, inr, filter, slice_get, list_any, In, arith, nat_tests, ◌++◌, flat_map, map, no_false, ◌==◌}
use Rattle.serial_spec.specs.Lists.{is_empty}

pub empty_list : {X : Type 0} (xs : List X) → is_empty xs ≡ true → xs ≡ []
empty_list xs h = grind (arith, nat_tests)

pub in_left : {X : Type 0} (xs ys : List X) (x : X) → In xs x → In (xs ++ ys) x
in_left [] ys x h = absurd h
in_left (z ∷ xs) ys x n = grind (arith, nat_tests, in_left xs ys x)

pub in_right : {X : Type 0} (xs ys : List X) (x : X) → In ys x → In (xs ++ ys) x
in_right [] ys x h = h
in_right (z ∷ xs) ys x h = inr (in_right xs ys x h)

pub in_map : {X Y : Type 0} (f : X → Y) (xs : List X) (x : X) → In xs x → In (map f xs) (f x)
in_map f [] x h = absurd h
in_map f (y ∷ ys) x xs = grind (arith, nat_tests, in_map f ys x)

pub in_flat : {X Y : Type 0} (f : X → List Y) (xs : List X) (x : X) (y : Y) → In xs x → In (f x) y → In (flat_map f xs) y
in_flat f [] x y h k = absurd h
in_flat f (z ∷ xs) x y h k = grind (arith, nat_tests, in_left (f z) (flat_map f xs) y, in_right (f z) (flat_map f xs) y, in_flat f xs x y)

-- the number that a test finds is a member
pub any_in : (xs : List ℕ) (x : ℕ) → list_any (λ z. z == x) xs ≡ true → In xs x
any_in [] x h = no_false h
any_in (y ∷ ys) x h = grind (arith, nat_tests, any_in ys x)

pub in_filter : {X : Type 0} (t : X → Bool) (xs : List X) (x : X) → In xs x → t x ≡ true → In (filter t xs) x
in_filter t [] x h e = absurd h
in_filter {X} t (y ∷ ys) x xs e = grind (arith, nat_tests, in_filter t ys x)

pub in_at : {X : Type 0} (xs : List X) (x : X) → In xs x → (k : ℕ) × (slice_get xs k ≡ Some x)
in_at [] x h = absurd h
in_at (y ∷ xs) x (inl e) = (0, ap Some e)
in_at (y ∷ xs) x (inr h) = let r = in_at xs x h in (suc r.0, r.1)

pub at_in : {X : Type 0} (xs : List X) (k : ℕ) (x : X) → slice_get xs k ≡ Some x → In xs x
at_in [] k x h = absurd cc
at_in (y ∷ xs) k x h = grind (arith, nat_tests, at_in xs)

pub filter_in : {X : Type 0} (t : X → Bool) (xs : List X) (x : X) → In (filter t xs) x → In xs x × (t x ≡ true)
filter_in t [] x h = absurd h
filter_in t (y ∷ ys) x h = grind (arith, nat_tests, filter_in t ys x)

pub any_member : {X : Type 0} (t : X → Bool) (xs : List X) (x : X) → In xs x → t x ≡ true → list_any t xs ≡ true
any_member t [] x h e = absurd h
any_member t (y ∷ ys) x xs e = grind (arith, nat_tests, any_member t ys x)
