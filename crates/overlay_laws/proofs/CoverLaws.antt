-- A cursor that cuts extents goes over the same windows as one that cuts bytes.
use Rattle.overlay_laws.proofs.Words.{◌≡◌, ℕ, zero, suc, ◌+◌, ◌-◌, ◌<◌, ◌≤◌, refl, inl, inr, List, [], ◌∷◌, ◌++◌, length, Bool, max, arith, length-append, append-nil, filter, map, nat_lt, nat_le, range_with_len, length-range_with_len, le-ltb, lt-leb, range_append, Extent, first_of, last_of, windows, sieving_windows, in_order, In, HaveSame, IsAscending, walked, round_end, below, above, IsCover, end_after, first_at, hull_of, extents_walked, told_of, spans, filter-append, nat_tests, ◌^◌, Owned, ranges, extents, common_steps, EndBelow}
use Rattle.overlay_laws.proofs.HullLaws.{range_low, range_high, in_either, in_in_order, in_order_in, in_order_ascends, in_range, flat_in, in_flat, last_most, last_below, in_map}
use Rattle.overlay_laws.proofs.WalkLaws.{filter_none, filter_all, drop_first, windows_walked, sieved_walked}

-- ---- bytes of a cover

spans_from : (n : ℕ) (cover : List Extent) → ((d : Extent) → In cover d → n ≤ d.at) → (y : ℕ) → In (spans cover) y → n ≤ y
spans_from n cover h y k = grind (arith, nat_tests, flat_in (λ (d : Extent). range_with_len d.at d.len) cover y k, range_low)

pub spans_past : (cover : List Extent) (n y : ℕ) → ((d : Extent) → In cover d → n < d.at) → In (spans cover) y → n < y
spans_past cover n y h k = spans_from (suc n) cover h y k

pub spans_below_none : (stop : ℕ) (cover : List Extent) → ((d : Extent) → In cover d → stop ≤ d.at) → filter (λ y. nat_lt y stop) (spans cover) ≡ []
spans_below_none stop cover h = filter_none (λ y. nat_lt y stop) (spans cover) (λ y k. le-ltb y stop (spans_from stop cover h y k))

pub range_above_none : (stop a n : ℕ) → a + n ≤ stop → filter (λ y. nat_le stop y) (range_with_len a n) ≡ []
range_above_none stop a n h = filter_none (λ y. nat_le stop y) (range_with_len a n) (λ y k. let l = range_high a n y k in lt-leb stop y (omega arith))

pub long_enough : (cover : List Extent) (e : Extent) → IsCover cover → In cover e → 1 ≤ e.len
long_enough [] e h k = absurd k
long_enough (d ∷ cover) e h xs = grind (arith, nat_tests, long_enough cover e h.2)

pub ranges_moved : (xs ys : List Owned) → ((o : Owned) → In xs o → In ys o) → (x : ℕ) → In (ranges xs) x → In (ranges ys) x
ranges_moved xs ys p x h = grind (arith, nat_tests, flat_in, in_flat)

-- a cover of the bytes of entries ends where they do
pub cover_ends : (cover : List Extent) (list : List Owned) → IsCover cover → HaveSame (spans cover) (ranges list) → EndBelow (2 ^ 62) (extents list) → EndBelow (2 ^ 62) cover
cover_ends cover list h same ends e m =
    let some = long_enough cover e h m in
    grind (arith, common_steps, in_range e.at e.len (e.at + (e.len - 1)), flat_in (λ (o : Owned). range_with_len o.extent.at o.extent.len) list (e.at + (e.len - 1)), in_flat (λ (d : Extent). range_with_len d.at d.len) cover e (e.at + (e.len - 1)) m, range_high, in_map (λ (o : Owned). o.extent) list)

-- ---- a cover that is cut at a place

-- its bytes are those of one part, and behind them those of the other
cut_spans : (stop : ℕ) (cover : List Extent) → spans cover ≡ spans (below stop cover) ++ spans (above stop cover)
cut_spans stop [] = refl
cut_spans stop (e ∷ cover) = grind (arith, common_steps, cut_spans stop cover, range_append e.at (stop - e.at) (e.at + e.len - stop), below, above, spans)

below_low : (stop : ℕ) (cover : List Extent) (y : ℕ) → In (spans (below stop cover)) y → y < stop
below_low stop [] y = λ k. absurd k
below_low stop (e ∷ cover) y = grind (arith, nat_tests, in_either, range_high, below_low stop cover y, range_with_len, below)

above_high : (stop : ℕ) (cover : List Extent) → IsCover cover → (d : Extent) → In (above stop cover) d → stop ≤ d.at
above_high stop [] h d = λ k. absurd k
above_high stop (e ∷ cover) h d = grind (arith, nat_tests, above_high stop cover h.2 d)

pub spans_below : (stop : ℕ) (cover : List Extent) → IsCover cover → filter (λ y. nat_lt y stop) (spans cover) ≡ spans (below stop cover)
spans_below stop cover h =
    grind (arith, nat_tests, cut_spans stop cover, filter-append, append-nil, filter_all, below_low stop cover, spans_below_none, above_high stop cover h)

pub spans_above : (stop : ℕ) (cover : List Extent) → IsCover cover → filter (λ y. nat_le stop y) (spans cover) ≡ spans (above stop cover)
spans_above stop cover h =
    grind (arith, nat_tests, cut_spans stop cover, filter-append, filter_none, below_low stop cover, filter_all, spans_from stop (above stop cover) (above_high stop cover h))

-- ---- both parts are covers

below_after : (stop n : ℕ) (cover : List Extent) → ((d : Extent) → In cover d → n < d.at) → (d : Extent) → In (below stop cover) d → n < d.at
below_after stop n [] h d = λ k. absurd k
below_after stop n (e ∷ cover) h d = grind (arith, nat_tests, below_after stop n cover (λ c q. h c (inr q)) d, h e (inl refl))

below_cover : (stop : ℕ) (cover : List Extent) → IsCover cover → IsCover (below stop cover)
below_cover stop [] h = tt
below_cover stop (e ∷ cover) h = grind (arith, nat_tests, below_after stop (e.at + e.len) cover h.1, below_cover stop cover h.2)

pub above_cover : (stop : ℕ) (cover : List Extent) → IsCover cover → IsCover (above stop cover)
above_cover stop [] h = tt
above_cover stop (e ∷ cover) h = grind (arith, nat_tests, above_cover stop cover h.2)

-- ---- the hull

pub last_joined : (xs ys : List ℕ) → last_of (xs ++ ys) ≡ max (last_of xs) (last_of ys)
last_joined [] ys = omega arith
last_joined (x ∷ xs) ys = let e = last_joined xs ys in omega arith

pub last_of_range : (a n : ℕ) → 1 ≤ n → last_of (range_with_len a n) + 1 ≡ a + n
last_of_range a n h =
    omega (arith, last_most (range_with_len a n) (a + (n - 1)) (in_range a n (a + (n - 1)) (omega arith) (omega arith)), last_below (range_with_len a n) (a + n) (omega arith) (range_high a n))

pub range_first : (a n : ℕ) (rest : List ℕ) → 1 ≤ n → (ys : List ℕ) × (range_with_len a n ++ rest ≡ a ∷ ys)
range_first a zero rest h = absurd (omega arith)
range_first a (suc n) rest h = (range_with_len (a + 1) n ++ rest, refl)

end_of_cover : (e : Extent) (cover : List Extent) → IsCover (e ∷ cover)
    → (last_of (spans (e ∷ cover)) + 1 ≡ end_after (e.at + e.len) cover) × (e.at + length (spans (e ∷ cover)) ≤ end_after (e.at + e.len) cover)
end_of_cover e [] h = simp append-nil (omega (arith, last_of_range e.at e.len h.0, length-range_with_len e.at e.len))
end_of_cover e (f ∷ cover) h =
    omega (arith, end_of_cover f cover h.2, h.2.0, h.1 f (inl refl), last_of_range e.at e.len h.0, last_joined (range_with_len e.at e.len) (spans (f ∷ cover)), length-append (range_with_len e.at e.len) (spans (f ∷ cover)), length-range_with_len e.at e.len, length-append (range_with_len f.at f.len) (spans cover), length-range_with_len f.at f.len)

pub triple_same : (a b c d : ℕ) (s t : Bool) → a ≡ c → b ≡ d → s ≡ t → ◌≡◌ {A = ℕ × ℕ × Bool} (a, b, s) (c, d, t)
triple_same a b c d s t p q r = λ i. (p i, q i, r i)

-- the hull of the bytes of a cover: its first byte, its length, and whether it has no hole
pub hull_told : (e : Extent) (cover : List Extent) → IsCover (e ∷ cover) → told_of (spans (e ∷ cover)) ≡ hull_of (e ∷ cover)
hull_told e [] h = grind (arith, nat_tests, append-nil, end_of_cover e [] h, length-range_with_len e.at e.len, range_first e.at e.len [] h.0)
hull_told e (f ∷ cover) h =
    grind (arith, nat_tests, end_of_cover e (f ∷ cover) h, end_of_cover f cover h.2, h.1 f (inl refl), length-append (range_with_len e.at e.len) (spans (f ∷ cover)), length-range_with_len e.at e.len, range_first e.at e.len (spans (f ∷ cover)) h.0)

-- ---- the walk

pub below_told : (stop : ℕ) (e : Extent) (cover : List Extent) → IsCover (e ∷ cover) → e.at < stop
    → told_of (spans (below stop (e ∷ cover))) ≡ hull_of (below stop (e ∷ cover))
below_told stop e cover h l =
    grind (arith, nat_tests, hull_told e (below stop cover), hull_told (record { at = e.at; len = stop - e.at }) [], below_cover stop (e ∷ cover) h)

-- the windows of the bytes, told, are those of the extents
extents_told : (stop : ℕ → ℕ) (fuel : ℕ) (cover : List Extent) → ((x : ℕ) → x < stop x) → IsCover cover
    → map told_of (walked stop fuel (spans cover)) ≡ extents_walked stop fuel cover
extents_told stop zero cover s h = refl
extents_told stop (suc fuel) [] s h = refl
extents_told stop (suc fuel) (e ∷ cover) s h =
    let first = range_first e.at e.len (spans cover) h.0 in
    grind (arith, nat_tests, drop_first, spans_above (stop e.at) (e ∷ cover) h, extents_told stop fuel (above (stop e.at) (e ∷ cover)) s (above_cover (stop e.at) (e ∷ cover) h), above_cover (stop e.at) (e ∷ cover) h, spans_below (stop e.at) (e ∷ cover) h, below_told (stop e.at) e cover h (s e.at), told_of, filter, walked, extents_walked, above)

pub past_round : (lo buffer x : ℕ) → 1 ≤ buffer → x < round_end lo buffer x
past_round lo buffer x h = grind (arith, nat_tests)

-- ---- the bytes of a cover stand in order

range_then_ascends : (a n : ℕ) (rest : List ℕ) → IsAscending rest → ((y : ℕ) → In rest y → a + n ≤ y) → IsAscending (range_with_len a n ++ rest)
range_then_ascends a zero rest h k = h
range_then_ascends a (suc n) rest h k = grind (arith, nat_tests, in_either, range_low, range_then_ascends (a + 1) n rest h, range_with_len)

pub spans_ascend : (cover : List Extent) → IsCover cover → IsAscending (spans cover)
spans_ascend [] h = tt
spans_ascend (e ∷ cover) h = grind (arith, nat_tests, range_then_ascends e.at e.len (spans cover), spans_ascend cover h.2, spans_past cover (e.at + e.len))

pub same_ascending : (xs ys : List ℕ) → IsAscending xs → IsAscending ys → ((y : ℕ) → In xs y → In ys y) → ((y : ℕ) → In ys y → In xs y) → xs ≡ ys
same_ascending [] ys h k there back = grind (arith, nat_tests, back (first_of ys))
same_ascending (x ∷ xs) [] h k there back = absurd (there x (inl refl))
same_ascending (x ∷ xs) (y ∷ ys) h k there back =
    let heads : x ≡ y = grind (arith, nat_tests, there x (inl refl), back y (inl refl), h.0 y, k.0 x) in
    grind (arith, nat_tests, same_ascending xs ys h.1 k.1, there, back, h.0, k.0)

-- a cover of the bytes of a list has just those in order
pub cover_in_order : (cover : List Extent) (bytes : List ℕ) → IsCover cover → HaveSame (spans cover) bytes → spans cover ≡ in_order bytes
cover_in_order cover bytes h same = grind (arith, nat_tests, same_ascending, in_order, spans_ascend, in_order_ascends, in_in_order, in_order_in)

pub windows_told : (buffer : ℕ) (cover : List Extent) → 1 ≤ buffer → IsCover cover
    → map told_of (windows buffer (spans cover)) ≡ extents_walked (round_end (first_at cover) buffer) (length (spans cover)) cover
windows_told buffer cover h k =
    grind (arith, nat_tests, windows_walked, spans_ascend, extents_told, past_round, told_of, extents_walked, round_end, first_at, walked)

pub sieving_told : (buffer : ℕ) (cover : List Extent) → 1 ≤ buffer → IsCover cover
    → map told_of (sieving_windows buffer (spans cover)) ≡ extents_walked (λ x. x + buffer) (length (spans cover)) cover
sieving_told buffer cover h k = grind (arith, nat_tests, sieved_walked, extents_told, told_of, extents_walked)
