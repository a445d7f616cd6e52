-- Extents in the order of their places, joined where they touch.
use Rattle.overlap_report.proofs.Words.{◌≡◌, ℕ, ◌+◌, ◌-◌, ◌<◌, ◌≤◌, ◌⊎◌, refl, ap, inl, inr, List, [], ◌∷◌, ◌++◌, length, drop, get_or, cond, max, arith, nat_lt, ◌==◌, flat_in, nat_tests, range_with_len, Extent, Owned, In, HaveSame, ranges, extents, IsByPlace, EndBelow, IsCover, spans, in_either, in_extents, entry_in, in_left, in_right, in_range, range_low, range_high, run, common_steps}
use Rattle.list_laws.proofs.Truth.{either}

-- the runs of the extents, where one from a place to an end has begun
abbrev pub joined_from : ℕ → ℕ → List Extent → List Extent
joined_from at end [] = run at end
joined_from at end (e ∷ es) =
    cond (e.len == 0) (joined_from at end es)
    (cond (nat_lt end e.at) (run at end ++ joined_from e.at (max end (e.at + e.len)) es) (joined_from at (max end (e.at + e.len)) es))

begins_by : (at end : ℕ) (es : List Extent) → IsByPlace es → ((d : Extent) → In es d → at ≤ d.at) → (d : Extent) → In (joined_from at end es) d → at ≤ d.at
begins_by at end [] sorted low d m = grind (arith, nat_tests, nat_lt)
begins_by at end (e ∷ es) sorted low d m =
    grind (arith, nat_tests, begins_by at end es sorted.1 (λ c k. low c (inr k)) d, begins_by at (max end (e.at + e.len)) es sorted.1 (λ c k. low c (inr k)) d, begins_by e.at (max end (e.at + e.len)) es sorted.1 sorted.0 d, low e (inl refl), in_either, nat_lt)

joined_cover : (at end : ℕ) (es : List Extent) → IsByPlace es → ((d : Extent) → In es d → at ≤ d.at) → IsCover (joined_from at end es)
joined_cover at end [] sorted low = grind (arith, nat_tests)
joined_cover at end (e ∷ es) sorted low =
    either (λ ds. IsCover ds) (e.len == 0) _ _ (λ f. joined_cover at end es sorted.1 (λ c k. low c (inr k)))
    (grind (arith, common_steps, joined_cover e.at (max end (e.at + e.len)) es sorted.1 sorted.0, begins_by e.at (max end (e.at + e.len)) es sorted.1 sorted.0, joined_cover at (max end (e.at + e.len)) es sorted.1 (λ c k. low c (inr k))))

-- ---- the bytes

joined_only : (at end x : ℕ) (es : List Extent) → In (spans (joined_from at end es)) x → ((at ≤ x) × (x < end)) ⊎ In (spans es) x
joined_only at end x [] m = grind (arith, nat_tests, flat_in, range_low, range_high, nat_lt)
joined_only at end x (e ∷ es) m =
    grind (arith, nat_tests, joined_only at end x es, joined_only at (max end (e.at + e.len)) x es, joined_only e.at (max end (e.at + e.len)) x es, in_either, in_right (range_with_len e.at e.len) (spans es) x, in_left (range_with_len e.at e.len) (spans es) x, in_range e.at e.len x, flat_in, range_low, range_high, nat_lt)

joined_all : (at end x : ℕ) (es : List Extent) → IsByPlace es → ((d : Extent) → In es d → at ≤ d.at) → ((at ≤ x) × (x < end)) ⊎ In (spans es) x
    → In (spans (joined_from at end es)) x
joined_all at end x [] sorted low xs = grind (arith, nat_tests, in_left, in_range)
joined_all at end x (e ∷ es) sorted low m =
    grind (arith, nat_tests, joined_all at end x es sorted.1 (λ d k. low d (inr k)), joined_all at (max end (e.at + e.len)) x es sorted.1 (λ d k. low d (inr k)), joined_all e.at (max end (e.at + e.len)) x es sorted.1 sorted.0, in_either, range_low, range_high, in_right, in_left, low e (inl refl), in_range, run, range_with_len)

-- ---- one more entry

spans_extents : (list : List Owned) → spans (extents list) ≡ ranges list
spans_extents [] = refl
spans_extents (o ∷ list) = ap (λ (r : List ℕ). range_with_len o.extent.at o.extent.len ++ r) (spans_extents list)

pub last_run : (list : List Owned) (i at end : ℕ) (done all more : List Extent) → length list ≤ i → more ≡ done ++ run at end
    → done ++ joined_from at end (extents (drop i list)) ≡ all → more ≡ all
last_run list i at end done all more h added e = grind (arith, common_steps)

pub all_cover : (list : List Owned) → IsByPlace (extents list) → IsCover (joined_from 0 0 (extents list))
all_cover list sorted = joined_cover 0 0 (extents list) sorted (λ d m. omega arith)

pub all_bytes_joined : (list : List Owned) → IsByPlace (extents list) → HaveSame (spans (joined_from 0 0 (extents list))) (ranges list)
all_bytes_joined list sorted = grind (arith, nat_tests, spans_extents list, joined_only 0 0, joined_all 0 0)

pub entry_ends : (list : List Owned) (n i : ℕ) (d : Owned) → EndBelow n (extents list) → i < length list → (get_or list i d).extent.at + (get_or list i d).extent.len < n
entry_ends list n i d h l = h (get_or list i d).extent (in_extents list (get_or list i d) (entry_in list i d l))
