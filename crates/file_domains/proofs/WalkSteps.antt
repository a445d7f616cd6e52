-- One window of a walk.
use Rattle.file_domains.proofs.Words.{◌≡◌, ℕ, zero, suc, ◌+◌, ◌-◌, ◌/◌, ◌^◌, ◌<◌, ◌≤◌, refl, sym, ◌∙◌, ap, inl, inr, List, [], ◌∷◌, length, ◌&&◌, min, max, Some, None, slice_get, get_or, arith, nat_tests, filter, map, nat_lt, nat_le, ◌==◌, range_with_len, no_none_some, Extent, first_of, IsAscending, In, EndBelow, above, IsCover, told_of, walked, round_end, spans, filter_same, take_first, drop_first, windows_walked, filter_in, filter_at_most, filter_ascends, flat_in, range_high, range_low, in_either, filter_two, spans_below, spans_above, below_told, range_first, past_round, spans_below_none, spans_ascend, spans_past, triple_same, same_Some, slice_get-get_or, Window, window_told, round_windows, cases_lt}
use Rattle.file_domains.proofs.CoverParts.{counted_below, ends_rise}

-- ---- walks

pub walked_enough : (stop : ℕ → ℕ) (f g : ℕ) (xs : List ℕ) → length xs ≤ f → length xs ≤ g → walked stop f xs ≡ walked stop g xs
walked_enough stop (suc f) (suc g) (x ∷ xs) h k = grind (arith, nat_tests, filter_at_most, walked_enough stop f g)
walked_enough stop zero zero xs h k = refl
walked_enough stop zero (suc g) [] h k = refl
walked_enough stop (suc f) zero [] h k = refl
walked_enough stop (suc f) (suc g) [] h k = refl
walked_enough stop f g xs h k = absurd (omega arith)

-- ---- the bytes of the first window, and those after it

window_bytes : (re end : ℕ) (xs : List ℕ) → filter (λ y. nat_lt y re) (filter (λ y. nat_lt y end) xs) ≡ filter (λ y. nat_lt y (min re end)) xs
window_bytes re end xs = filter_two (λ y. nat_lt y (min re end)) (λ y. nat_lt y re) (λ y. nat_lt y end) xs (λ y m. grind (arith, nat_tests))

-- bytes from a place on that lie before the end, where the window ends at the place or at the end
later_test : (re end from y : ℕ) → from ≤ min re end
    → (nat_le re y && (nat_lt y end && nat_le from y)) ≡ (nat_lt y end && nat_le (min re end) y)
later_test re end from y h = grind (arith, nat_tests)

later_bytes : (re end from : ℕ) (xs : List ℕ) → from ≤ min re end
    → filter (λ y. nat_le re y) (filter (λ y. nat_lt y end) (filter (λ y. nat_le from y) xs)) ≡ filter (λ y. nat_lt y end) (filter (λ y. nat_le (min re end) y) xs)
later_bytes re end from xs h =
    ap (λ (b : List ℕ). filter (λ y. nat_le re y) b) (filter_two (λ y. nat_lt y end && nat_le from y) (λ y. nat_lt y end) (λ y. nat_le from y) xs (λ y m. refl))
    ∙ filter_two (λ y. nat_lt y end && nat_le (min re end) y) (λ y. nat_le re y) (λ y. nat_lt y end && nat_le from y) xs (λ y m. sym (later_test re end from y h))
    ∙ sym (filter_two (λ y. nat_lt y end && nat_le (min re end) y) (λ y. nat_lt y end) (λ y. nat_le (min re end) y) xs (λ y m. refl))

-- ---- the first window of a cover that has bytes left

-- the bytes of a cover from a place on, before another
abbrev pub between : ℕ → ℕ → List Extent → List ℕ
between from end cover = filter (λ y. nat_lt y end) (filter (λ y. nat_le from y) (spans cover))

-- the first extent, from a place on
abbrev pub head_from : ℕ → Extent → Extent
head_from from e = record { at = max e.at from; len = e.at + e.len - max e.at from }

pub above_first : (from : ℕ) (e : Extent) (cover : List Extent) → from < e.at + e.len → above from (e ∷ cover) ≡ head_from from e ∷ cover
above_first from e cover h = grind (arith, nat_tests)

head_cover : (from : ℕ) (e : Extent) (cover : List Extent) → IsCover (e ∷ cover) → from < e.at + e.len → IsCover (head_from from e ∷ cover)
head_cover from e cover h k = let long = h.0 in (omega arith, (λ d m. let gap = h.1 d m in omega arith), h.2)

-- what is told of it
pub first_told : (from stop k : ℕ) (e last : Extent) (cover : List Extent) → IsCover (e ∷ cover) → from < e.at + e.len → max e.at from < stop
    → slice_get (e ∷ cover) k ≡ Some last → last.at < stop → ((d : Extent) → slice_get cover k ≡ Some d → stop ≤ d.at)
    → told_of (between from stop (e ∷ cover)) ≡ (max e.at from, min (last.at + last.len) stop - max e.at from, k == 0)
first_told from stop k e last cover h l room at_last low after =
    let head = head_cover from e cover h l in
    let zeroth = counted_below stop zero (head_from from e) (head_from from e) cover head room refl room in
    grind (arith, nat_tests, spans_above from (e ∷ cover) h, above_first from e cover l, spans_below stop (head_from from e ∷ cover) head, below_told stop (head_from from e) cover head room, triple_same, counted_below stop k (head_from from e) last cover head room, zeroth, same_Some e last, filter)

-- the bytes of the cover begin with the first one left
pub first_byte : (from end : ℕ) (e : Extent) (cover : List Extent) → IsCover (e ∷ cover) → from < e.at + e.len → max e.at from < end → (ys : List ℕ) × (between from end (e ∷ cover) ≡ max e.at from ∷ ys)
first_byte from end e cover h l room =
    let some = range_first (max e.at from) (e.at + e.len - max e.at from) (spans cover) (omega arith) in
    (filter (λ y. nat_lt y end) some.0, grind (arith, nat_tests, spans_above from (e ∷ cover) h, above_first from e cover l, some.1, take_first, filter))

-- ---- a step

-- the windows over some bytes
abbrev pub told_windows : ℕ → ℕ → List ℕ → List Window
told_windows first size bytes = map (window_told first size) (map told_of (walked (round_end first size) (length bytes) bytes))

first_window : (first size from end stop k : ℕ) (e last : Extent) (cover left : List Extent) → 1 ≤ size → first ≤ max e.at from
    → IsCover (e ∷ cover) → from < e.at + e.len → max e.at from < end → stop ≡ min (round_end first size (max e.at from)) end
    → slice_get (e ∷ cover) k ≡ Some last → last.at < stop → ((d : Extent) → slice_get cover k ≡ Some d → stop ≤ d.at)
    → filter (λ y. nat_le stop y) (spans left) ≡ filter (λ y. nat_le stop y) (spans (e ∷ cover))
    → told_windows first size (between from end (e ∷ cover)) ≡ window_told first size (max e.at from, min (last.at + last.len) stop - max e.at from, k == 0) ∷ told_windows first size (between stop end left)
first_window first size from end stop k e last cover left big begin h l room is_stop at_last low after same =
    let x : ℕ = max e.at from in
    let re : ℕ = round_end first size x in
    let bytes : List ℕ = between from end (e ∷ cover) in
    let begins = first_byte from end e cover h l room in
    let told = first_told from stop k e last cover h l (omega arith) at_last low after in
    let here : filter (λ y. nat_lt y re) bytes ≡ between from stop (e ∷ cover)
    = grind (arith, nat_tests, window_bytes, filter) in
    let later : filter (λ y. nat_le re y) bytes ≡ between stop end left
    = grind (arith, nat_tests, later_bytes, filter) in
    grind (arith, nat_tests, drop_first, filter_at_most, walked_enough, filter, window_told)

-- nothing is left past the end
no_bytes : (from end : ℕ) (e : Extent) (cover : List Extent) → IsCover (e ∷ cover) → from < e.at + e.len → end ≤ max e.at from → between from end (e ∷ cover) ≡ []
no_bytes from end e cover h l past =
    grind (arith, nat_tests, spans_above from (e ∷ cover) h, above_first from e cover l, spans_below_none end (head_from from e ∷ cover), h.1, filter)

-- ---- a step, of the extents by their numbers

pub first_ends : (cover : List Extent) (k : ℕ) (e d : Extent) → IsCover cover → slice_get cover 0 ≡ Some e → k < length cover
    → e.at + e.len ≤ (get_or cover k d).at + (get_or cover k d).len
first_ends cover k e d h g l = grind (arith, nat_tests, ends_rise cover 0 k e, slice_get-get_or cover k d l)

one_more : (count : ℕ) → 1 ≤ count → (count - 1 == 0) ≡ (count == 1)
one_more count h = grind (arith, nat_tests)

some_before : (stop count : ℕ) (e : Extent) (cover : List Extent) → ((c : Extent) → slice_get (e ∷ cover) count ≡ Some c → stop ≤ c.at) → e.at < stop → 1 ≤ count
some_before stop count e cover after l = grind (arith, nat_tests, after e)

-- ---- the windows of a domain

no_windows : (size : ℕ) → 1 ≤ size → round_windows size [] ≡ []
no_windows size h = ap (λ (ws : List (List ℕ)). map (window_told 0 size) (map told_of ws)) (windows_walked size [] h tt)

same_windows : (from size x : ℕ) (ys bytes : List ℕ) → 1 ≤ size → IsAscending bytes → bytes ≡ from ∷ ys → told_windows from size bytes ≡ round_windows size bytes
same_windows from size x ys bytes h asc e = grind (arith, nat_tests, first_of, windows_walked, told_windows, round_windows, window_told)

spans_high : (cover : List Extent) (n y : ℕ) → EndBelow n cover → In (spans cover) y → y < n
spans_high cover n y h k = grind (arith, nat_tests, flat_in, range_high)

same_begin : (y low from first : ℕ) → from ≡ max first low → first ≤ y → nat_le from y ≡ nat_le low y
same_begin y low from first e h = grind (arith, nat_tests)

spans_low : (e : Extent) (cover : List Extent) (y : ℕ) → IsCover (e ∷ cover) → In (spans (e ∷ cover)) y → e.at ≤ y
spans_low e cover y h k =
    grind (arith, nat_tests, in_either (range_with_len e.at e.len) (spans cover) y k, range_low e.at e.len y, spans_past cover (e.at + e.len) y h.1)

-- the walk that begins at the first covered byte
pub begin_windows : (size low from end top : ℕ) (cover : List Extent) → 1 ≤ size → IsCover cover → EndBelow (2 ^ 62) cover → 2 ^ 62 ≤ top
    → ((c : Extent) → In cover c → low < c.at + c.len) → ((e : Extent) → slice_get cover 0 ≡ Some e → from ≡ max e.at low)
    → told_windows from size (between from (min end top) cover) ≡ round_windows size (between low end cover)
begin_windows size low from end top [] big h ends cap past begins = sym (no_windows size big)
begin_windows size low from end top (e ∷ cover) big h ends cap past begins =
    let is : from ≡ max e.at low = begins e refl in
    let long = past e (inl refl) in
    let from_low = filter_same (λ y. nat_le from y) (λ y. nat_le low y) (spans (e ∷ cover)) (λ y m. same_begin y low from e.at is (spans_low e cover y h m)) in
    let same : between from (min end top) (e ∷ cover) ≡ between from end (e ∷ cover)
    = grind (arith, nat_tests, filter_same, spans_high (e ∷ cover) (2 ^ 62), filter_in, filter) in
    let ascends = filter_ascends (λ y. nat_lt y end) _ (filter_ascends (λ y. nat_le from y) (spans (e ∷ cover)) (spans_ascend (e ∷ cover) h)) in
    elim (cases_lt from end) [
      | inl room ↦ (let some = first_byte from end e cover h (omega arith) (omega arith) in grind (arith, nat_tests, same, from_low, same_windows from size from some.0 (between from end (e ∷ cover)) big ascends, some.1))
      | inr past_end ↦ grind (arith, nat_tests, same, from_low, no_bytes, no_windows)
    ]

pub empty_left : (first size from end : ℕ) (cover : List Extent) → None ≡ slice_get cover 0 → told_windows first size (between from end cover) ≡ []
empty_left first size from end [] h = refl
empty_left first size from end (e ∷ cover) h = no_none_some e h

pub none_left_at : (first size from end : ℕ) (e : Extent) (cover : List Extent) → IsCover cover → ((c : Extent) → In cover c → from < c.at + c.len)
    → slice_get cover 0 ≡ Some e → end ≤ max e.at from → told_windows first size (between from end cover) ≡ []
none_left_at first size from end e [] h past g room = refl
none_left_at first size from end e (c ∷ cover) h past g room = grind (arith, nat_tests, no_bytes from end c cover h, past c, same_Some c e g)

-- a window ends past its first byte
pub stops_past : (first size at end top : ℕ) → 1 ≤ size → at < end → end ≤ top → at < min (min (round_end first size at) top) end
stops_past first size at end top big room cap = let past = past_round first size at big in omega arith

pub next_window_at : (first size from end sat stop top count last at : ℕ) (e d : Extent) (cover left : List Extent) → at ≡ max e.at from → 1 ≤ size → first ≤ from
    → IsCover cover → ((c : Extent) → In cover c → from < c.at + c.len) → slice_get cover 0 ≡ Some e → at < end → end ≤ top
    → sat ≡ min (round_end first size at) top → stop ≡ min sat end → count ≤ length cover
    → ((i : ℕ) (c : Extent) → i < count → slice_get cover i ≡ Some c → c.at < stop)
    → ((c : Extent) → slice_get cover count ≡ Some c → stop ≤ c.at)
    → last ≡ min ((get_or cover (count - 1) d).at + (get_or cover (count - 1) d).len) stop
    → filter (λ y. nat_le stop y) (spans left) ≡ filter (λ y. nat_le stop y) (spans cover)
    → told_windows first size (between from end cover) ≡ record { round = (at - first) / size; hull = record { at = at; len = last - at }; full = count == 1 } ∷ told_windows first size (between stop end left)
next_window_at first size from end sat stop top count last at e d [] left is big low h past g room cap is_sat is_stop bound before after is_last same = no_none_some e g
next_window_at first size from end sat stop top count last at e d (c ∷ cover) left is big low h past g room cap is_sat is_stop bound before after is_last same =
    let begin : max c.at from ≡ at = ap (λ (z : Extent). max z.at from) (same_Some c e g) ∙ sym is in
    let some : 1 ≤ count = some_before stop count c cover after (omega arith) in
    let at_last = slice_get-get_or (c ∷ cover) (count - 1) d (omega arith) in
    grind (arith, nat_tests, begin, some, at_last, first_window first size from end stop (count - 1) c (get_or (c ∷ cover) (count - 1) d) cover left big, past c, before (count - 1), after, one_more count, window_told)

-- every extent of a walk that begins has bytes left
pub left_from : (low from : ℕ) (cover : List Extent) → IsCover cover → ((c : Extent) → In cover c → low < c.at + c.len)
    → ((e : Extent) → slice_get cover 0 ≡ Some e → from ≡ max e.at low) → (c : Extent) → In cover c → from < c.at + c.len
left_from low from [] h past begins c m = absurd m
left_from low from (e ∷ cover) h past begins c m = grind (arith, nat_tests, begins e refl, past e (inl refl), h.0, h.1 c)
