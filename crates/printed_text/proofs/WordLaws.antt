-- Words on a line.
use Rattle.printed_text.proofs.Cited.{◌≡◌, ℕ, zero, suc, ◌+◌, ◌-◌, ◌/◌, ◌%◌, ◌<◌, ◌≤◌, List, [], ◌∷◌, ◌++◌, length, map, take, get_or, sym, ap, ◌∙◌, inl, inr, Some, arith, append-nil, append_assoc, flat_map_more, map_more, take_all, take_more, flat_map-append, slice_get_cases, same_Some, slice_get, min, enumerate_from, flat_map, zip, get_or-enumerate_from, get_or-zip, no_none_some, then_append, length-enumerate_from, length-zip, joined, hex, hex_digit, spaced}

-- the first word stands by itself, each other one behind a blank
pub joined_spaced : (w : List ℕ) (ws : List (List ℕ)) → joined 32 (w ∷ ws) ≡ w ++ spaced ws
joined_spaced w [] = sym (append-nil w)
joined_spaced w (x ∷ xs) = ap (λ (t : List ℕ). w ++ 32 ∷ t) (joined_spaced x xs)

-- one item more
pub mapped_more : {A B : Type 0} (g : B → List ℕ) (f : A → B) (front : List ℕ) (xs : List A) (i : ℕ) (d : A) → i < length xs
    → front ++ flat_map g (map f (take (i + 1) xs)) ≡ (front ++ flat_map g (map f (take i xs))) ++ g (f (get_or xs i d))
mapped_more g f front xs i d h = simp (map_more f xs i d h, flat_map-append, append-nil, append_assoc)

-- one word more
pub spaced_more : {A : Type 0} (f : A → List ℕ) (front : List ℕ) (xs : List A) (i : ℕ) (d : A) → i < length xs
    → front ++ spaced (map f (take (i + 1) xs)) ≡ (front ++ spaced (map f (take i xs))) ++ 32 ∷ f (get_or xs i d)
spaced_more f front xs i d h = mapped_more (λ w. 32 ∷ w) f front xs i d h

pub spaced_next : {A : Type 0} (f : A → List ℕ) (front : List ℕ) (xs : List A) (i : ℕ) (x : A) → slice_get xs i ≡ Some x
    → front ++ spaced (map f (take (i + 1) xs)) ≡ (front ++ spaced (map f (take i xs))) ++ 32 ∷ f x
spaced_next {A} f front xs i x there =
    elim (slice_get_cases xs i).1 [
      | inl h ↦ spaced_more f front xs i h.0 h.1 ∙ ap (λ (y : A). (front ++ spaced (map f (take i xs))) ++ 32 ∷ f y) (h.3 ∙ same_Some h.0 x (sym h.2 ∙ there))
      | inr h ↦ no_none_some x (sym h.1 ∙ there)
    ]

pub hex_last : (n x : ℕ) → 0 < n → hex n x ≡ hex (n - 1) (x / 16) ++ hex_digit (x % 16) ∷ []
hex_last zero x h = absurd (omega arith)
hex_last (suc n) x h = let e : suc n - 1 ≡ n = omega arith in rw e

-- the words of a call's line
pub call_words : (n c : List ℕ) (o x v : List (List ℕ))
    → ((n ++ 32 ∷ []) ++ c) ++ ((spaced o ++ spaced x) ++ spaced v) ≡ joined 32 (n ∷ c ∷ o ++ x ++ v)
call_words n c o x v = simp (joined_spaced, flat_map-append (λ w. 32 ∷ w) (o ++ x) v, flat_map-append (λ w. 32 ∷ w) o x, append_assoc)

-- the words of an item's line
pub item_words : (n c : List ℕ) (v : List (List ℕ)) → (n ++ 32 ∷ c) ++ spaced v ≡ joined 32 (n ∷ c ∷ v)
item_words n c v = append_assoc n (32 ∷ c) (spaced v) ∙ sym (joined_spaced n (c ∷ v))

pub spaced_one : (w : List ℕ) → spaced (w ∷ []) ≡ 32 ∷ w
spaced_one w = append-nil (32 ∷ w)

-- an item that goes last
pub next_pushed : {A : Type 0} (f : A → List ℕ) (front now next : List ℕ) (all : List A) (n m : ℕ) (x : A) → n < length all → x ≡ get_or all n x → m ≡ n + 1
    → now ≡ front ++ flat_map f (take n all) → next ≡ now ++ f x → next ≡ front ++ flat_map f (take m all)
next_pushed f front now next all n m x within here one so_far pushed = rw (pushed, so_far, one, take_more all n x within, ← here) (flat_map_more f front (take n all) x)

pub all_pushed : {A : Type 0} (f : A → List ℕ) (front now : List ℕ) (all : List A) (n : ℕ) → n ≡ length all
    → now ≡ front ++ flat_map f (take n all) → now ≡ front ++ flat_map f all
all_pushed f front now all n whole so_far = let most : length all ≤ n = omega arith in rw (so_far, take_all n all most)

-- ---- over lists that are read side by side

pub pair_at : {A B : Type 0} (xs : List A) (ys : List B) (n : ℕ) (x : A) (y : B) → n < length xs → n < length ys → x ≡ get_or xs n x → y ≡ get_or ys n y
    → (x, y) ≡ get_or (zip xs ys) n (x, y)
pair_at xs ys n x y in_xs in_ys first second = rw (get_or-zip xs ys n (x, y) in_xs in_ys, ← first, ← second)

pub pair_pushed : {A B : Type 0} (f : ℕ × (A × B) → List ℕ) (front now next : List ℕ) (xs : List A) (ys : List B) (n m : ℕ) (x : A) (y : B)
    → n < length xs → n < length ys → x ≡ get_or xs n x → y ≡ get_or ys n y → m ≡ n + 1
    → now ≡ front ++ flat_map f (take n (enumerate_from 0 (zip xs ys))) → next ≡ now ++ f (n, (x, y)) → next ≡ front ++ flat_map f (take m (enumerate_from 0 (zip xs ys)))
pair_pushed {A} {B} f front now next xs ys n m x y in_xs in_ys first second one so_far pushed =
    let pairs : List (A × B) = zip xs ys in
    let within : n < length pairs = omega (arith, length-zip xs ys) in
    let long : n < length (enumerate_from 0 pairs) = omega (arith, length-enumerate_from 0 pairs, within) in
    let here : 0 + n ≡ n = omega arith in
    let item : (n, (x, y)) ≡ get_or (enumerate_from 0 pairs) n (n, (x, y)) = rw (get_or-enumerate_from 0 pairs n (n, (x, y)) within, ← pair_at xs ys n x y in_xs in_ys first second, here) in
    next_pushed f front now next (enumerate_from 0 pairs) n m (n, (x, y)) long item one so_far pushed

pub pairs_pushed : {A B : Type 0} (f : ℕ × (A × B) → List ℕ) (front now : List ℕ) (xs : List A) (ys : List B) (n : ℕ) → n ≡ min (length xs) (length ys)
    → now ≡ front ++ flat_map f (take n (enumerate_from 0 (zip xs ys))) → now ≡ front ++ flat_map f (enumerate_from 0 (zip xs ys))
pairs_pushed f front now xs ys n whole so_far =
    let all : n ≡ length (enumerate_from 0 (zip xs ys)) = omega (arith, length-enumerate_from 0 (zip xs ys), length-zip xs ys, whole) in
    all_pushed f front now (enumerate_from 0 (zip xs ys)) n all so_far

regroup : (a b d e f g : List ℕ) → ((a ++ b ++ d) ++ (e ++ f)) ++ g ≡ a ++ (b ++ (d ++ (e ++ (f ++ (g ++ [])))))
regroup a b d e f g = simp (append_assoc, append-nil)

-- two requests, each with its rank, and a byte
pub pair_spaced : (w a b x y z : List ℕ) → ((32 ∷ w ++ 32 ∷ a ++ 32 ∷ b) ++ (32 ∷ x ++ 32 ∷ y)) ++ 32 ∷ z ≡ spaced (w ∷ a ∷ b ∷ x ∷ y ∷ z ∷ [])
pair_spaced w a b x y z = regroup (32 ∷ w) (32 ∷ a) (32 ∷ b) (32 ∷ x) (32 ∷ y) (32 ∷ z)

-- ---- parts one after another

pub then_three : (o : List ℕ) {x y z : List ℕ} (a b c : List ℕ) → x ≡ o ++ a → y ≡ x ++ b → z ≡ y ++ c → z ≡ o ++ (a ++ b ++ c)
then_three o a b c e f g = then_append o _ _ (a ++ b) c (then_append o _ _ a b e f) g
