-- Two boxes share an element exactly where their ranges meet in each dimension.
use Rattle.vara_extents.proofs.Words.{◌++◌, ◌≡◌, ℕ, zero, suc, ◌+◌, ◌*◌, ◌∙◌, ap, refl, List, [], ◌∷◌, length, map, Bool, true, false, ltb, leb, eqb, ◌||◌, ◌&&◌, max, min, replicate, arith, flat_map, bytes_eq, list_any, range_with_len, list_any-append, map-append, any_map, coordinates, index_at, has_index, boxes_meet, nat_tests}

both_or : (a b x : Bool) → ((a && x) || (b && x)) ≡ ((a || b) && x)
both_or a b x = grind (arith, nat_tests)

-- a box's indices
abbrev pub box : List ℕ → List ℕ → List (List ℕ)
box starts counts = map (λ c. index_at starts (replicate (length counts) 1) c) (coordinates counts)

any_and : {A : Type 0} (b : Bool) (q : A → Bool) (xs : List A) → list_any (λ c. b && q c) xs ≡ (b && list_any q xs)
any_and true q (x ∷ xs) = ap (λ r. q x || r) (any_and true q xs)
any_and false q (x ∷ xs) = any_and false q xs
any_and _ q _ = refl

-- a test of an index that tests the first number and the rest
split_any : (p : ℕ → Bool) (q all : List ℕ → Bool) → ((x : ℕ) (xs : List ℕ) → all (x ∷ xs) ≡ (p x && q xs))
    → (s : ℕ) (starts ones : List ℕ) (inner : List (List ℕ)) (is : List ℕ)
    → list_any all (map (λ c. index_at (s ∷ starts) (1 ∷ ones) c) (flat_map (λ i. map (λ c. i ∷ c) inner) is))
    ≡ (list_any (λ i. p (s + i * 1)) is && list_any q (map (λ c. index_at starts ones c) inner))
split_any p q all h s starts ones inner [] = grind (arith, nat_tests)
split_any p q all h s starts ones inner (i ∷ is) =
    let each : list_any (λ c. all ((s + i * 1) ∷ index_at starts ones c)) inner ≡ list_any (λ c. p (s + i * 1) && q (index_at starts ones c)) inner =
    λ j. list_any (λ c. h (s + i * 1) (index_at starts ones c) j) inner in
    grind (arith, nat_tests, map-append, list_any-append, any_map, both_or, split_any p q all h s starts ones inner is, any_and (p (s + i * 1)) (λ c. q (index_at starts ones c)) inner)

-- ---- one dimension

in_range : (s x a n : ℕ) → list_any (λ i. eqb (s + i * 1) x) (range_with_len a n) ≡ (leb (s + a) x && ltb x (s + a + n))
in_range s x a zero = grind (arith, nat_tests)
in_range s x a (suc n) = grind (arith, nat_tests, in_range s x (a + 1) n)

abbrev within : ℕ → ℕ → ℕ → Bool
within t m x = leb t x && ltb x (t + m)

ranges_meet : (s t m a n : ℕ) → list_any (λ i. within t m (s + i * 1)) (range_with_len a n) ≡ ltb (max (s + a) t) (min (s + a + n) (t + m))
ranges_meet s t m a zero = grind (arith, nat_tests)
ranges_meet s t m a (suc n) = grind (arith, nat_tests, ranges_meet s t m (a + 1) n)

-- ---- boxes

-- a box has an index exactly where each of its numbers lies in its range
has_first : (t m x : ℕ) (others lengths index : List ℕ)
    → has_index (box (t ∷ others) (m ∷ lengths)) (x ∷ index) ≡ (within t m x && has_index (box others lengths) index)
has_first t m x others lengths index =
    split_any (λ y. eqb y x) (λ i. bytes_eq i index) (λ i. bytes_eq i (x ∷ index)) (λ y ys. refl) t others (replicate (length lengths) 1) (coordinates lengths) (range_with_len 0 m)
    ∙ grind (arith, nat_tests, in_range t x 0 m)

-- two boxes share an index exactly where their ranges meet
pub boxes_share : (starts counts others lengths : List ℕ) → length starts ≡ length counts → length others ≡ length lengths → length lengths ≡ length counts
    → list_any (has_index (box others lengths)) (box starts counts) ≡ boxes_meet starts counts others lengths
boxes_share [] [] [] [] h k l = refl
boxes_share (s ∷ starts) (n ∷ counts) (t ∷ others) (m ∷ lengths) h k l =
    split_any (within t m) (has_index (box others lengths)) (has_index (box (t ∷ others) (m ∷ lengths))) (λ x index. has_first t m x others lengths index) s starts
    (replicate (length counts) 1) (coordinates counts) (range_with_len 0 n)
    ∙ grind (arith, nat_tests, ranges_meet s t m 0 n, boxes_share starts counts others lengths)
boxes_share _ _ _ _ h k l = absurd (omega (arith, h, k, l))

-- an index of one list is in one of two lists
pub any_both : (a b xs : List (List ℕ)) → list_any (has_index (a ++ b)) xs ≡ (list_any (has_index a) xs || list_any (has_index b) xs)
any_both a b [] = refl
any_both a b (x ∷ xs) = grind (arith, nat_tests, any_both a b xs, list_any-append (λ i. bytes_eq i x) a b)

pub any_none : {A : Type 0} (xs : List A) → list_any (λ x. false) xs ≡ false
any_none [] = refl
any_none (x ∷ xs) = any_none xs
