-- The cover of extents has their bytes, and reaches from the first to the last.
use Rattle.nc_classic_c.proofs.Words.{◌≡◌, ℕ, ◌+◌, ◌-◌, ◌≤◌, ◌^◌, List, [], ◌∷◌, length, map, true, ap, Some, arith, range_with_len, IsPermutation, flat_map-map, same_Some, passes_each, no_none_some, Extent, Owned, first_of, last_of, spans, at_in, HaveSame, ranges, extents, EndBelow, IsCover, cover_in_order, last_joined, last_of_range, range_first, same_permuted, each_in, map_in, NcvExtent, bytes_asked, end_is_low, end_of, ends_are_low, entry, nat_tests, ltb-true, slice_get}
use Rattle.overlay_laws.proofs.CoverLaws.{ranges_moved}

abbrev bytes : Owned → List ℕ
bytes o = range_with_len o.extent.at o.extent.len

-- ---- entries in any order

pub entries_low : (asked : List NcvExtent) (list : List Owned) → ends_are_low asked ≡ true → IsPermutation (map entry asked) list → EndBelow (2 ^ 62) (extents list)
entries_low asked list h p e m = grind (arith, nat_tests, same_permuted (map entry asked) list p, passes_each end_is_low asked h, map_in, ltb-true, each_in)

-- ---- a cover

pub cover_bytes : (cover : List Extent) (list : List Owned) (asked : List NcvExtent) → IsCover cover → HaveSame (spans cover) (ranges list) → IsPermutation (map entry asked) list
    → spans cover ≡ bytes_asked asked
cover_bytes cover list asked h same p = grind (arith, nat_tests, same_permuted (map entry asked) list p, flat_map-map bytes entry asked, cover_in_order, ranges_moved)

-- ---- from the first byte to the last

first_byte : (e : Extent) (cover : List Extent) → 1 ≤ e.len → first_of (spans (e ∷ cover)) ≡ e.at
first_byte e cover h = ap (λ (xs : List ℕ). first_of xs) (range_first e.at e.len (spans cover) h).1

last_byte : (e : Extent) (cover : List Extent) (last : Extent) → IsCover (e ∷ cover) → slice_get (e ∷ cover) (length cover) ≡ Some last
    → last_of (spans (e ∷ cover)) + 1 ≡ last.at + last.len
last_byte e [] last h is = grind (arith, nat_tests, same_Some, last_of_range, last_joined)
last_byte e (c ∷ cover) last h is =
    let rest = last_byte c cover last h.2 is in
    let own = last_of_range e.at e.len h.0 in
    let whole = last_joined (range_with_len e.at e.len) (spans (c ∷ cover)) in
    let there = at_in (c ∷ cover) (length cover) last is in
    let gap = h.1 last there in
    omega arith

end_is : (e : Extent) (cover : List Extent) → 1 ≤ e.len → end_of (spans (e ∷ cover)) ≡ last_of (spans (e ∷ cover)) + 1
end_is e cover h = grind (arith, nat_tests)

pub reach_is : (cover : List Extent) (first last : Extent) → IsCover cover → slice_get cover 0 ≡ Some first → slice_get cover (length cover - 1) ≡ Some last
    → (first.at ≡ first_of (spans cover)) × (last.at + last.len ≡ end_of (spans cover)) × (first.at ≤ last.at + last.len)
reach_is [] first last h e f = no_none_some first e
reach_is (c ∷ cover) first last h e f =
    let index : length (c ∷ cover) - 1 ≡ length cover = omega arith in
    grind (arith, nat_tests, index, slice_get, same_Some, last_byte, last_of_range, last_joined, first_byte, end_is)
