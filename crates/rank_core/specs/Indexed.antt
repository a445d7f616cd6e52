-- An index of a header's names. (own)
--     is_below names name place  the name at a place is less than this
--     place_cmp names a b        the order of two places: by their names, then by place
--     IsInOrder names places     each place once, in that order
--     IsIndexOf header names     the variables and the dimensions of the header so, and its measures
use Rattle.std.specs.Prelude.{◌≡◌, ℕ, Bool, true, false, List, [], length, map, slice_index_or}
use Rattle.std.specs.Cmp.Lexicographic.{slice_cmp}
use Rattle.std.specs.declared.cmp.Ordering.{Ordering}
use Rattle.std.specs.List.{range_with_len}
use Rattle.std.specs.List.Sorted.{IsPartitionPoint, IsPermutation, IsSorted}
use Rattle.std.specs.Ordering.{is_lt, nat_cmp, ordering_then}
use Rattle.nc_base.specs.declared.header.Header.{Header}
use Rattle.var_layout.specs.Measures.{AreMeasures}
use Rattle.rank_core.specs.declared.names.Names.{Names}

abbrev pub name_at : List (List ℕ) → ℕ → List ℕ
name_at names place = slice_index_or names place []

abbrev pub is_below : List (List ℕ) → List ℕ → ℕ → Bool
is_below names name place = is_lt (slice_cmp nat_cmp (name_at names place) name)

abbrev pub place_cmp : List (List ℕ) → ℕ → ℕ → Ordering
place_cmp names a b = ordering_then (slice_cmp nat_cmp (name_at names a) (name_at names b)) (nat_cmp a b)

-- those before the end pass the test, and the others do not
abbrev pub IsSplitAt : (ℕ → Bool) → List ℕ → ℕ → Type 0
IsSplitAt test places end = IsPartitionPoint (λ k. test k ≡ true) (λ k. test k ≡ false) places end

pub record IsInOrder (names : List (List ℕ)) (places : List ℕ) : Type 0 where
  pub each : IsPermutation (range_with_len 0 (length names)) places
  pub sorted : IsSorted (place_cmp names) places

pub record IsIndexOf (header : Header) (names : Names) : Type 0 where
  pub vars : IsInOrder (map (λ v. v.name) header.vars) names.vars.items
  pub dims : IsInOrder (map (λ d. d.name) header.dims) names.dims.items
  pub measures : AreMeasures header names.measures
