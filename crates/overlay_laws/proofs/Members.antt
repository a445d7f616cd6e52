-- Members of lists: of filtered, mapped, entry_numbered and paired ones, by place, of a list's first entries.
use Rattle.overlay_laws.proofs.Words.{◌≡◌, ℕ, suc, ◌+◌, ◌<◌, refl, length, take, get_or, ap, inl, inr, List, [], ◌∷◌, Some, arith, zip, slice_get, enumerate_from, AllByRecursion, slice_get_read, In, at_in, entry_numbered, nat_tests, slice_get-get_or, entry_zip, Says, ◌++◌, ◌⊎◌, flat_map, map}
pub use Rattle.serial_spec.proofs.MemberLaws.{in_map, in_left, in_right, in_flat, any_in}

pub map_in : {X Y : Type 0} (f : X → Y) (xs : List X) (y : Y) → In (map f xs) y → (x : X) × In xs x × (f x ≡ y)
map_in f [] y h = absurd h
map_in f (x ∷ xs) y h = grind (arith, nat_tests, map_in f xs y)

pub each_in : {X : Type 0} (P : X → Type 0) (xs : List X) (x : X) → AllByRecursion P xs → In xs x → P x
each_in P [] x h m = absurd m
each_in P (y ∷ ys) x h xs = grind (arith, nat_tests, each_in P ys x h.1)

pub in_either : {X : Type 0} (xs ys : List X) (x : X) → In (xs ++ ys) x → In xs x ⊎ In ys x
in_either [] ys x h = inr h
in_either (z ∷ xs) ys x n = grind (arith, nat_tests, in_either xs ys x)

pub flat_in : {X Y : Type 0} (f : X → List Y) (xs : List X) (y : Y) → In (flat_map f xs) y → (x : X) × In xs x × In (f x) y
flat_in f [] y h = absurd h
flat_in f (z ∷ xs) y h = grind (arith, nat_tests, flat_in f xs y, in_either)

-- ---- by place

-- an entry that is read is a member
pub read_in : {X : Type 0} (xs : List X) (i : ℕ) (x : X) → i < length xs → x ≡ get_or xs i x → In xs x
read_in xs i x there is = at_in xs i x (slice_get_read xs (length xs) i x refl there is)

pub entry_in : {X : Type 0} (xs : List X) (i : ℕ) (d : X) → i < length xs → In xs (get_or xs i d)
entry_in xs i d h = at_in xs i (get_or xs i d) (slice_get-get_or xs i d h)

pub in_taken : {X : Type 0} (n : ℕ) (xs : List X) (x : X) → In (take n xs) x → In xs x
in_taken (suc n) (y ∷ xs) x ys = grind (arith, nat_tests, in_taken n xs x)
in_taken n xs x h = absurd h

-- ---- numbers

pub numbered_at : {X : Type 0} (xs : List X) (k : ℕ) (x : X) → slice_get xs k ≡ Some x → slice_get (enumerate_from 0 xs) k ≡ Some (k, x)
numbered_at xs k x h = grind (arith, nat_tests, entry_numbered)

pub in_numbered : {X : Type 0} (xs : List X) (k : ℕ) (x : X) → slice_get xs k ≡ Some x → In (enumerate_from 0 xs) (k, x)
in_numbered xs k x h = at_in (enumerate_from 0 xs) k (k, x) (numbered_at xs k x h)

pub numbered_from : {X : Type 0} (n : ℕ) (xs : List X) (p : ℕ × X) → In (enumerate_from n xs) p → (k : ℕ) × (p.0 ≡ n + k) × (slice_get xs k ≡ Some p.1)
numbered_from n [] p h = absurd h
numbered_from {X} n (y ∷ xs) p (inl e) = grind (arith, nat_tests)
numbered_from n (y ∷ xs) p (inr h) = let rest = numbered_from (n + 1) xs p h in (suc rest.0, omega (arith, rest.1), rest.2)

pub numbered_in : {X : Type 0} (xs : List X) (p : ℕ × X) → In (enumerate_from 0 xs) p → slice_get xs p.0 ≡ Some p.1
numbered_in xs p h = grind (arith, nat_tests, numbered_from)

pub zip_in : {X Y : Type 0} (xs : List X) (ys : List Y) (p : X × Y) → In (zip xs ys) p
    → (k : ℕ) × (slice_get xs k ≡ Some p.0) × (slice_get ys k ≡ Some p.1)
zip_in {X} {Y} (x ∷ xs) (y ∷ ys) p (inl e) = (0, ap (λ (q : X × Y). Some q.0) e, ap (λ (q : X × Y). Some q.1) e)
zip_in (x ∷ xs) (y ∷ ys) p (inr h) = let r = zip_in xs ys p h in (suc r.0, r.1, r.2)
zip_in xs ys p h = absurd h

pub in_zip : {X Y : Type 0} (xs : List X) (ys : List Y) (k : ℕ) (x : X) (y : Y) → slice_get xs k ≡ Some x → slice_get ys k ≡ Some y → In {X = X × Y} (zip xs ys) (x, y)
in_zip xs ys k x y h g = at_in (zip xs ys) k (x, y) (entry_zip xs ys k x y h g)

-- ---- what is said

pub says_in : {A : Type 0} (ps : List (ℕ × A)) (x : ℕ) (v : A) → (Says ps x v → In ps (x, v)) × (In ps (x, v) → Says ps x v)
says_in [] x v = (λ h. h, λ h. h)
says_in (p ∷ ps) x v = grind (arith, nat_tests, says_in ps x v)
