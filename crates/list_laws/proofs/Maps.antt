-- Lists that are mapped, searched or filtered.
use Rattle.list_laws.proofs.Words.{◌≡◌, ◌≤◌, refl, sym, ◌∙◌, ap, List, [], ◌∷◌, length, map, Bool, true, not, ◌||◌, Some, arith, ℕ, suc, None, ◌+◌, ◌<◌, ◌++◌, take, get_or, drop, filter, slice_get, flat_map, list_any, position, prefix_len, find, enumerate_from, length-map, drop_more, nat_tests, option_map, slice_get-map, append_assoc}
use Rattle.list_laws.proofs.Optional.{some_of_map}
use Rattle.std.proofs.lemmas.List as std

pub map_map : {A B C : Type 0} (f : B → C) (g : A → B) (xs : List A) → map f (map g xs) ≡ map (λ x. f (g x)) xs
map_map f g [] = refl
map_map f g (x ∷ xs) = ap (λ ys. f (g x) ∷ ys) (map_map f g xs)

pub any_map : {A B : Type 0} (p : B → Bool) (f : A → B) (xs : List A) → list_any p (map f xs) ≡ list_any (λ x. p (f x)) xs
any_map p f [] = refl
any_map p f (x ∷ xs) = ap (λ (t : Bool). p (f x) || t) (any_map p f xs)

prefix_map : {A B : Type 0} (p : B → Bool) (f : A → B) (xs : List A) → prefix_len p (map f xs) ≡ prefix_len (λ x. p (f x)) xs
prefix_map p f [] = refl
prefix_map p f (x ∷ xs) = rw (prefix_map p f xs) refl

pub position_map : {A B : Type 0} (p : B → Bool) (f : A → B) (xs : List A) → position p (map f xs) ≡ position (λ x. p (f x)) xs
position_map p f xs = rw (prefix_map (λ y. not (p y)) f xs, length-map xs f) refl

pub filter_at_most : {A : Type 0} (test : A → Bool) (xs : List A) → length (filter test xs) ≤ length xs
filter_at_most test [] = omega arith
filter_at_most {A} test (x ∷ xs) = grind (arith, nat_tests, filter_at_most test xs)

pub found_passes : {A : Type 0} (p : A → Bool) (xs : List A) (x : A) → find p xs ≡ Some x → p x ≡ true
found_passes p [] x e = cc
found_passes {A} p (y ∷ ys) x e = grind (arith, nat_tests, found_passes p ys x)

pub entry_map : {A B : Type 0} (f : A → B) (xs : List A) (k : ℕ) (x : A) → slice_get xs k ≡ Some x → slice_get (map f xs) k ≡ Some (f x)
entry_map f xs k x h = slice_get-map f xs k ∙ ap (λ o. option_map f o) h

pub entry_map_none : {X Y : Type 0} (f : X → Y) (xs : List X) (r : ℕ) → slice_get xs r ≡ None → slice_get (map f xs) r ≡ None
entry_map_none f xs r e = slice_get-map f xs r ∙ ap (λ o. option_map f o) e

pub mapped_entry : {X Y : Type 0} (f : X → Y) (xs : List X) (r : ℕ) (y : Y) → slice_get (map f xs) r ≡ Some y → (x : X) × ((slice_get xs r ≡ Some x) × (f x ≡ y))
mapped_entry f xs r y e = let s = some_of_map f (slice_get xs r) y (sym (slice_get-map f xs r) ∙ e) in (s.0, (s.1, s.2))

-- a map of one element more
pub map_more : {X Y : Type 0} (f : X → Y) (xs : List X) (i : ℕ) (x : X) → i < length xs → x ≡ get_or xs i x → map f (take (i + 1) xs) ≡ map f (take i xs) ++ f x ∷ []
map_more f xs i x h e = std.map_more f xs i x h ∙ ap (λ y. map f (take i xs) ++ f y ∷ []) (sym e)

pub rows_same : {A B X : Type 0} (f : A → X) (h : ℕ × B → X) (xs : List A) (ys : List B) (from : ℕ) → length xs ≡ length ys
    → ((r : ℕ) (a : A) (b : B) → slice_get xs r ≡ Some a → slice_get ys r ≡ Some b → f a ≡ h (from + r, b)) → map f xs ≡ map h (enumerate_from from ys)
rows_same f h [] [] from l e = refl
rows_same f h (a ∷ xs) (b ∷ ys) from l e =
    let more = rows_same f h xs ys (from + 1) (omega arith) (λ r a' b' p q. grind (arith, nat_tests, e (suc r) a' b' p q)) in
    grind (arith, nat_tests, e 0 a b refl refl, more)
rows_same f h n m from l e = absurd (omega arith)

-- One more is done: with those that are left it is still the whole.
pub next_numbered : {X Y : Type 0} (f : ℕ × X → List Y) (xs : List X) (i m next : ℕ) (x d : X) (done now whole : List Y) → i < length xs → get_or xs i d ≡ x → next ≡ m + 1
    → now ≡ done ++ f (m, x) → done ++ flat_map f (enumerate_from m (drop i xs)) ≡ whole
    → now ++ flat_map f (enumerate_from next (drop (i + 1) xs)) ≡ whole
next_numbered {X} {Y} f xs i m next x d done now whole there is more step all = grind (arith, nat_tests, append_assoc, drop_more, flat_map, enumerate_from, drop)

pub flat_same : {A B : Type 0} (f g : A → List B) → ((x : A) → f x ≡ g x) → (xs : List A) → flat_map f xs ≡ flat_map g xs
flat_same f g h [] = refl
flat_same f g h (x ∷ xs) = λ t. h x t ++ flat_same f g h xs t
