-- Lists made number by number.
use Rattle.generated_run.proofs.Words.{◌≡◌, ℕ, zero, suc, ◌+◌, ◌*◌, ◌<◌, ◌≤◌, List, [], ◌∷◌, ◌++◌, map, sum, Bool, true, ◌==◌, refl, ◌∙◌, append_assoc, arith, flat_map, list_all, range_with_len, ne_eqb, and_from, not_from_false, append-nil, none_in_range, range_push, flat_map-append, list_all-append, map-range_with_len_more, are_different, sum_cons, nat_tests}

-- one item more
pub next_item : {A : Type 0} (f : ℕ → A) (front now next : List A) (n : ℕ) (x : A)
    → now ≡ front ++ map f (range_with_len 0 n) → x ≡ f n → next ≡ now ++ x ∷ [] → next ≡ front ++ map f (range_with_len 0 (n + 1))
next_item {A} f front now next n x so_far here pushed = grind (arith, nat_tests, append_assoc, map-range_with_len_more)

-- one piece more
pub next_piece : {A : Type 0} (f : ℕ → List A) (front now next : List A) (a n m j : ℕ) → a + n ≡ j → m ≡ n + 1
    → now ≡ front ++ flat_map f (range_with_len a n) → next ≡ now ++ f j → next ≡ front ++ flat_map f (range_with_len a m)
next_piece {A} f front now next a n m j here one so_far pushed = grind (arith, nat_tests, append_assoc, append-nil, flat_map-append, range_push a n j)

-- all pieces
pub all_pieces : {A : Type 0} (f : ℕ → List A) (front now : List A) (a b n m : ℕ) → a ≡ b → n ≡ m
    → now ≡ front ++ flat_map f (range_with_len a n) → now ≡ front ++ flat_map f (range_with_len b m)
all_pieces {A} f front now a b n m from many so_far = grind (arith, nat_tests)

-- ---- what is so of each number

pub range_passes : {A : Type 0} (p : A → Bool) (f : ℕ → A) (a n : ℕ) → ((k : ℕ) → k < a + n → p (f k) ≡ true) → list_all p (map f (range_with_len a n)) ≡ true
range_passes p f a zero h = refl
range_passes p f a (suc n) h = and_from _ _ (h a (omega arith)) (range_passes p f (a + 1) n (λ k b. h k (omega arith)))

pub pieces_pass : {A : Type 0} (p : A → Bool) (f : ℕ → List A) (a n : ℕ) → ((k : ℕ) → k < a + n → list_all p (f k) ≡ true) → list_all p (flat_map f (range_with_len a n)) ≡ true
pieces_pass p f a zero h = refl
pieces_pass p f a (suc n) h = list_all-append p (f a) (flat_map f (range_with_len (a + 1) n)) ∙ and_from _ _ (h a (omega arith)) (pieces_pass p f (a + 1) n (λ k b. h k (omega arith)))

pub sum_within : {A : Type 0} (g : A → ℕ) (f : ℕ → A) (m a n : ℕ) → ((k : ℕ) → k < a + n → g (f k) ≤ m) → sum (map g (map f (range_with_len a n))) ≤ n * m
sum_within g f m a zero h = omega arith
sum_within g f m a (suc n) h = grind (arith, nat_tests, sum_within g f m (a + 1) n, sum_cons, sum, range_with_len)

-- ---- the numbers differ

pub range_differs : (a n : ℕ) → are_different (range_with_len a n) ≡ true
range_differs a zero = refl
range_differs a (suc n) = and_from _ _ (not_from_false _ (none_in_range (λ k. k == a) (a + 1) n (λ i l. ne_eqb (a + 1 + i) a (λ e. omega arith)))) (range_differs (a + 1) n)
