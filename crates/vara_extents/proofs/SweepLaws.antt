-- Whether regions meet is the same in any order and without those that have no element, and the sweep over regions in the order of
-- their first elements finds it.
use Rattle.vara_extents.proofs.Words.{◌≡◌, ℕ, zero, suc, ◌+◌, ◌<◌, refl, List, [], ◌∷◌, length, drop, get_or, Bool, true, false, ltb, ◌||◌, max, min, arith, filter, slice_cmp, IsStrictWeakOrder, swap, IsPermutation, IsSortedBy, is_lt, nat_cmp, and_parts, cases_eq, nat_list_cmp_total, mul-le, get_or-drop, get_or_default, length-drop, length-swap, swapped_from_swap, All-head, All-tail, ranks_by, sorted_far, IsPermutation-keeps, IsPermutation-sym, drop-cons, no_false, Region, product, has_element, boxes_meet, is_past, meets_any, some_meet, AreByStart, BeginsBy, begins_past, led_by, nat_tests, All}

-- ---- past the last index of a box

-- an index that is not before one that is past the box is past it too
past_on : (starts counts xs ys : List ℕ) → is_past starts counts xs ≡ true → is_lt (slice_cmp nat_cmp ys xs) ≡ false → is_past starts counts ys ≡ true
past_on (s ∷ starts) (n ∷ counts) (x ∷ xs) (y ∷ ys) h k = grind (arith, nat_tests, past_on starts counts xs ys)
past_on _ _ _ _ h k = grind (arith, nat_tests, no_false)

-- a box that begins past another shares no index with it
past_apart : (starts counts others lengths : List ℕ) → is_past starts counts others ≡ true → boxes_meet starts counts others lengths ≡ false
past_apart (s ∷ starts) (n ∷ counts) (t ∷ others) (m ∷ lengths) h = grind (arith, nat_tests, past_apart starts counts others lengths)
past_apart starts counts others lengths h = grind (arith, nat_tests, no_false, is_past, boxes_meet)

-- ---- regions in the order of their first elements

abbrev pub starts_before : ℕ → Region → Region → Bool
starts_before axis g h = is_lt (slice_cmp nat_cmp (led_by axis 0 g.start) (led_by axis 0 h.start))

pub start_ranks : (axis : ℕ) → IsStrictWeakOrder (starts_before axis)
start_ranks axis = ranks_by nat_list_cmp_total (λ (g : Region). led_by axis 0 g.start)

pub by_start : (axis : ℕ) (regions : List Region) → IsSortedBy (starts_before axis) regions → AreByStart axis regions
by_start axis regions up i j d l m = sorted_far (starts_before axis) (start_ranks axis) regions up i j d (omega (arith, l)) m

pub in_order_drop : (axis n : ℕ) (regions : List Region) → AreByStart axis regions → AreByStart axis (drop n regions)
in_order_drop axis n regions up i j d l m = grind (arith, nat_tests, length-drop, get_or-drop)

-- two boxes that share an index do so along each axis
meet_along : (starts counts others lengths : List ℕ) (axis : ℕ) → boxes_meet starts counts others lengths ≡ true
    → boxes_meet (led_by axis 0 starts) (led_by axis 1 counts) (led_by axis 0 others) (led_by axis 1 lengths) ≡ true
meet_along (s ∷ starts) (n ∷ counts) (t ∷ others) (m ∷ lengths) zero h = grind (arith, nat_tests)
meet_along (s ∷ starts) (n ∷ counts) (t ∷ others) (m ∷ lengths) (suc axis) h = grind (arith, nat_tests, meet_along starts counts others lengths axis)
meet_along [] [] [] [] axis h = refl
meet_along _ _ _ _ axis h = no_false h

-- a region that begins past another in the order that an axis leads shares no index with it
apart_along : (axis : ℕ) (g h : Region) → begins_past axis g h ≡ true → boxes_meet g.start g.count h.start h.count ≡ false
apart_along axis g h p =
    grind (arith, nat_tests, meet_along g.start g.count h.start h.count axis, past_apart (led_by axis 0 g.start) (led_by axis 1 g.count) (led_by axis 0 h.start) (led_by axis 1 h.count) p)

later_past : (axis : ℕ) (g other : Region) (others : List Region) → begins_past axis g other ≡ true → All (BeginsBy axis other) others → meets_any g others ≡ false
later_past axis g other [] h up = refl
later_past axis g other (x ∷ others) h up =
    grind (arith, nat_tests, apart_along axis g x, past_on (led_by axis 0 g.start) (led_by axis 1 g.count) (led_by axis 0 other.start) (led_by axis 0 x.start) h, All-head (BeginsBy axis other) x others up, later_past axis g other others h (All-tail (BeginsBy axis other) x others up))

-- from the first that begins past a region on, none shares an element with it
pub none_later : (axis : ℕ) (g : Region) (others : List Region) (i : ℕ) (d : Region) → AreByStart axis others → i < length others
    → begins_past axis g (get_or others i d) ≡ true → meets_any g (drop i others) ≡ false
none_later axis g others i d up l h =
    let later : All (BeginsBy axis (get_or others i d)) (drop (suc i) others) = λ k e m.
    grind (arith, nat_tests, length-drop (suc i) others, get_or_default others (suc i + k) d e, get_or-drop (suc i) others k e, up i (suc i + k) d) in
    grind (arith, nat_tests, drop-cons others i d l, apart_along axis g (get_or others i d) h, later_past axis g (get_or others i d) (drop (suc i) others) h later)

-- ---- regions in another order

abbrev Apart : Region → Region → Type 0
Apart g h = boxes_meet g.start g.count h.start h.count ≡ false

turned : (starts counts others lengths : List ℕ) → boxes_meet starts counts others lengths ≡ true → boxes_meet others lengths starts counts ≡ true
turned (s ∷ starts) (n ∷ counts) (t ∷ others) (m ∷ lengths) h =
    grind (arith, nat_tests, turned starts counts others lengths (and_parts (ltb (max s t) (min (s + n) (t + m))) (boxes_meet starts counts others lengths) h).1)
turned starts counts others lengths h = grind (arith, nat_tests, no_false, boxes_meet)

-- each two of the list
abbrev AllApart : List Region → Type 0
AllApart xs = (i j : ℕ) (d : Region) → i < length xs → j < length xs → (i ≡ j → ⊥) → Apart (get_or xs i d) (get_or xs j d)

each_apart : (g : Region) (xs : List Region) → meets_any g xs ≡ false → (j : ℕ) (d : Region) → j < length xs → Apart g (get_or xs j d)
each_apart g [] e j d l = absurd (omega (arith, l))
each_apart g (x ∷ xs) e j d l = grind (arith, nat_tests, each_apart g xs)

none_meets : (g : Region) (xs : List Region) → ((j : ℕ) (d : Region) → j < length xs → Apart g (get_or xs j d)) → meets_any g xs ≡ false
none_meets g [] h = refl
none_meets g (x ∷ xs) h = λ k. h 0 x (omega arith) k || none_meets g xs (λ j d l. h (suc j) d (omega (arith, l))) k

all_apart : (xs : List Region) → some_meet xs ≡ false → AllApart xs
all_apart [] e i j d l m n = absurd (omega (arith, l))
all_apart (x ∷ xs) e ys k d l m n =
    grind (arith, nat_tests, each_apart x xs, turned, all_apart xs, some_meet, AllApart)

none_meet : (xs : List Region) → AllApart xs → some_meet xs ≡ false
none_meet [] h = refl
none_meet (x ∷ xs) h =
    grind (arith, nat_tests, none_meets x xs (λ j d l. grind (arith, nat_tests, h 0 (suc j) d)), none_meet xs (λ i j d l m n. grind (arith, nat_tests, h (suc i) (suc j) d)))

swapped_apart : (xs : List Region) (a b : ℕ) → a < length xs → b < length xs → AllApart xs → AllApart (swap xs a b)
swapped_apart xs a b p q h i j d l m n =
    grind (arith, nat_tests, swapped_from_swap xs (swap xs a b) a b d p q, length-swap xs a b, cases_eq i a, cases_eq i b, cases_eq j a, cases_eq j b, h)

-- ---- regions that have no element

none_shared : (starts counts others lengths : List ℕ) → boxes_meet starts counts others lengths ≡ true → 0 < product counts
none_shared (s ∷ starts) (n ∷ counts) (t ∷ others) (m ∷ lengths) h = grind (arith, nat_tests, none_shared starts counts others lengths, mul-le 1 1 n (product counts))
none_shared starts counts others lengths h = grind (arith, nat_tests, no_false, boxes_meet)

meets_with : (g : Region) (xs : List Region) → meets_any g (filter has_element xs) ≡ meets_any g xs
meets_with g [] = refl
meets_with g (x ∷ xs) = grind (arith, nat_tests, meets_with g xs, turned, none_shared)

-- what the sweep goes over meets where all meet
-- what the sweep goes over meets where all meet
pub swept : (regions in_order : List Region) → IsPermutation (filter has_element regions) in_order → some_meet in_order ≡ some_meet regions
swept regions in_order p =
    let some = filter has_element regions in
    grind (arith, nat_tests, kept some in_order p, kept in_order some (IsPermutation-sym some in_order p), some_with regions)
  where
    kept : (us vs : List Region) → IsPermutation us vs → some_meet us ≡ false → some_meet vs ≡ false
    kept us vs m e = none_meet vs (IsPermutation-keeps us AllApart (all_apart us e) swapped_apart vs m)

    some_with : (xs : List Region) → some_meet (filter has_element xs) ≡ some_meet xs
    some_with [] = refl
    some_with (x ∷ xs) = grind (arith, nat_tests, some_with xs, meets_with, none_meets, none_shared)
