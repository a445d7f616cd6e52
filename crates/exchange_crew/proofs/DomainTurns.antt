-- The windows of a part stand one after another, begin and end with a covered byte, and have each covered byte once.
use Rattle.exchange_crew.proofs.Words.{◌≡◌, ℕ, zero, suc, ◌+◌, ◌-◌, ◌/◌, ◌<◌, ◌≤◌, min, inl, inr, refl, ◌∙◌, ap, List, [], ◌∷◌, ◌++◌, length, not, arith, flat_map-map, flat_map, range_with_len, ltb-true, ltb-false, eqb-true, lt-ltb, leb-true, le-leb, Extent, Owned, first_of, last_of, hull_len, not_empty, windows, In, ranges, HaveSame, IsAscending, joined, told_of, IsCover, spans, windows_have, filter_ascends, in_left, in_right, in_either, in_flat, flat_in, in_range, range_low, any_in, in_any, first_least, last_most, div_grows, equal_true, no_both, in_filter, filter_in, in_map, map_in, same_ascending, spans_ascend, window_short, LiesIn, bytes_in, window_told, round_windows, told_window, IsCovered, in_ranges, ranges_in, hole_short, AreTurns, HaveWindows, IsTurn, LieOnPart, Told, share, nat_tests, map, common_steps}

-- ---- numbers in order, one list after another

append_ascends : (xs ys : List ℕ) → IsAscending xs → IsAscending ys → ((x y : ℕ) → In xs x → In ys y → x < y) → IsAscending (xs ++ ys)
append_ascends [] ys h k l = k
append_ascends (x ∷ xs) ys h k l = grind (arith, nat_tests, in_either xs ys, h.0, l x, append_ascends xs ys h.1 k (λ z y m n. l z y (inr m) n))

ascends_parts : (xs ys : List ℕ) → IsAscending (xs ++ ys) → IsAscending xs × IsAscending ys × ((x y : ℕ) → In xs x → In ys y → x < y)
ascends_parts [] ys h = (tt, h, λ x y m. absurd m)
ascends_parts (z ∷ xs) ys h = grind (arith, nat_tests, in_left xs ys, in_right xs ys, ascends_parts xs ys h.1)

pub first_in : (xs : List ℕ) → 1 ≤ length xs → In xs (first_of xs)
first_in xs h = grind (arith, nat_tests)

last_in : (xs : List ℕ) → 1 ≤ length xs → In xs (last_of xs)
last_in [] h = absurd (omega arith)
last_in (x ∷ xs) h = grind (arith, common_steps, last_in xs, last_of xs)

-- ---- shares, counted from c by k

later_share : (c k : ℕ) (bytes : List ℕ) (a n x : ℕ) → In (flat_map (λ j. share c k bytes j) (range_with_len a n)) x → In bytes x × (a ≤ (x - c) / k)
later_share c k bytes a n x h = grind (arith, nat_tests, flat_in, filter_in, eqb-true, range_low)

shares_ascend : (c k : ℕ) (bytes : List ℕ) (a n : ℕ) → 1 ≤ k → IsAscending bytes → IsAscending (flat_map (λ j. share c k bytes j) (range_with_len a n))
shares_ascend c k bytes a zero h asc = tt
shares_ascend c k bytes a (suc n) h asc =
    grind (arith, nat_tests, shares_ascend c k bytes (a + 1) n h asc, append_ascends, filter_ascends, later_share, ltb-true, ltb-false, eqb-true, filter_in, div_grows)

shares_all : (c k n : ℕ) (bytes : List ℕ) → 1 ≤ k → IsAscending bytes → ((x : ℕ) → In bytes x → (x - c) / k < n)
    → flat_map (λ j. share c k bytes j) (range_with_len 0 n) ≡ bytes
shares_all c k n bytes h asc below = same_ascending _ _ (shares_ascend c k _ 0 n h asc) asc (λ x m. (later_share c k bytes 0 n x m).0)
    (λ x m. let b = below x m in in_flat _ _ _ x (in_range 0 n ((x - c) / k) (omega arith) (omega arith)) (in_filter _ _ x m (equal_true ((x - c) / k) ((x - c) / k) refl)))

-- ---- lists without the empty ones

joined_kept : (ws : List (List ℕ)) → joined (not_empty ws) ≡ joined ws
joined_kept [] = refl
joined_kept (w ∷ ws) = grind (arith, nat_tests, joined_kept ws)

-- ---- the windows of a domain

windows_joined : (size : ℕ) (bytes : List ℕ) → 1 ≤ size → IsAscending bytes → joined (windows size bytes) ≡ bytes
windows_joined size bytes h asc =
    joined_kept (map (λ j. share (first_of bytes) size bytes j) (range_with_len 0 ((last_of bytes - first_of bytes) / size + 1)))
    ∙ flat_map-map (λ (w : List ℕ). w) (λ j. share (first_of bytes) size bytes j) (range_with_len 0 ((last_of bytes - first_of bytes) / size + 1))
    ∙ shares_all (first_of bytes) size ((last_of bytes - first_of bytes) / size + 1) bytes h asc
    (grind (arith, common_steps, last_most bytes, div_grows, first_of bytes, last_of bytes))

window_of : (size : ℕ) (bytes w : List ℕ) → In (windows size bytes) w → (1 ≤ length w) × (j : ℕ) × (share (first_of bytes) size bytes j ≡ w)
window_of size bytes w m = grind (arith, nat_tests, filter_in, not, map_in)

-- ---- windows as turns

is_turn : (list : List Owned) (room : ℕ) (w : List ℕ) → IsAscending w → 1 ≤ length w → hull_len w ≤ room → ((x : ℕ) → In w x → IsCovered list x) → IsTurn list room (told_of w)
is_turn list room w asc some short covered = grind (arith, nat_tests, first_least w, last_of w, last_in w some, first_of w, any_in, no_both, in_any, hole_short w, last_most w)

are_turns : (list : List Owned) (room : ℕ) (ws : List (List ℕ)) → IsAscending (joined ws) → ((w : List ℕ) → In ws w → 1 ≤ length w)
    → ((w : List ℕ) → In ws w → hull_len w ≤ room) → ((x : ℕ) → In (joined ws) x → IsCovered list x) → AreTurns list room (map told_of ws)
are_turns list room [] asc some short covered = tt
are_turns list room (w ∷ ws) asc some short covered = (
  is_turn list _ w (ascends_parts w _ asc).0 (some w (inl refl)) (short w (inl refl)) (λ x m. covered x (in_left w (joined ws) x m)),
  (λ u m.
      let r = map_in told_of ws u m in
      let before = (ascends_parts w _ asc).2 _ _ (last_in w (some w (inl refl))) (in_flat (λ (v : List ℕ). v) ws _ _ r.1 (first_in _ (some r.0 (inr r.1)))) in
      grind (arith, nat_tests, first_least, (ascends_parts w _ asc).0, last_in, r.2)),
  are_turns list room ws (ascends_parts w _ asc).1 (λ v m. some v (inr m)) (λ v m. short v (inr m)) (λ x m. covered x (in_right w _ x m)),
)

-- ---- the windows of a domain as turns

told_again : (first size : ℕ) (ts : List Told) → map told_window (map (window_told first size) ts) ≡ ts
told_again first size [] = refl
told_again first size (t ∷ ts) = ap (λ (r : List Told). t ∷ r) (told_again first size ts)

pub told_windows : (size : ℕ) (bytes : List ℕ) → map told_window (round_windows size bytes) ≡ map told_of (windows size bytes)
told_windows size bytes = told_again (first_of bytes) size (map told_of (windows size bytes))

domain_ascends : (domain : Extent) (cover : List Extent) → IsCover cover → IsAscending (bytes_in domain cover)
domain_ascends domain cover c = grind (arith, nat_tests, spans_ascend cover c, filter_ascends)

short_window : (size : ℕ) (domain : Extent) (cover : List Extent) (w : List ℕ) → 1 ≤ size → IsCover cover → In (windows size (bytes_in domain cover)) w
    → (1 ≤ length w) × (hull_len w ≤ min size domain.len) × (domain.at ≤ first_of w) × (first_of w + hull_len w ≤ domain.at + domain.len)
short_window size domain cover w h c m =
    let asc = domain_ascends domain cover c in
    grind (arith, nat_tests, window_of size (bytes_in domain cover) w m, window_short size (bytes_in domain cover) w h asc m, first_of w, first_in w ((window_of size (bytes_in domain cover) w m).0), last_of w, last_in w ((window_of size (bytes_in domain cover) w m).0), last_most w (first_of w) (first_in w ((window_of size (bytes_in domain cover) w m).0)), filter_in, leb-true, ltb-true, windows_joined, domain_ascends, in_flat (λ (v : List ℕ). v) (windows size (bytes_in domain cover)) w)

pub domain_turns : (size : ℕ) (domain : Extent) (list : List Owned) (cover : List Extent) → 1 ≤ size → IsCover cover → HaveSame (spans cover) (ranges list)
    → AreTurns list (min size domain.len) (map told_of (windows size (bytes_in domain cover)))
domain_turns size domain list cover h c same =
    let ws = windows size (bytes_in domain cover) in
    grind (arith, nat_tests, domain_ascends domain cover c, windows_joined size (bytes_in domain cover) h (domain_ascends domain cover c), are_turns list (min size domain.len) ws, short_window size domain cover, ranges_in list, same.0, bytes_in, filter_in, leb-true, ltb-true)

pub domain_part : (size : ℕ) (domain : Extent) (cover : List Extent) (from len : ℕ) → 1 ≤ size → IsCover cover → from ≤ domain.at → domain.at + domain.len ≤ from + len
    → LieOnPart from len (map told_of (windows size (bytes_in domain cover)))
domain_part size domain cover from len h c low high t m = grind (arith, nat_tests, map_in told_of (windows size (bytes_in domain cover)) t m, short_window)

-- each covered byte of a domain lies in a hull
pub domain_windows : (size from len : ℕ) (domain : Extent) (list : List Owned) (cover : List Extent) → 1 ≤ size → IsCover cover → HaveSame (spans cover) (ranges list)
    → ((x : ℕ) → from ≤ x → x < from + len → IsCovered list x → LiesIn domain x) → HaveWindows from len list (map told_of (windows size (bytes_in domain cover)))
domain_windows size from len domain list cover h c same inside x low high covered =
    let d = inside x low high covered in
    let m : In (bytes_in domain cover) x = in_filter _ _ x (in_filter _ _ x (same.1 x (in_ranges _ x covered)) (le-leb domain.at x d.0)) (lt-ltb x (domain.at + domain.len) d.1) in
    let w = windows_have _ _ x h (domain_ascends domain _ c) m in
    grind (arith, nat_tests, first_least, last_most, in_map told_of, w.ascends, w.has, w.window, w.is_one)
