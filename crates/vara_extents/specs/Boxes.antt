-- Boxes of indices.
use Rattle.std.specs.Prelude.{◌≡◌, ◌==◌, ℕ, ◌+◌, max, min, List, [], ◌∷◌, length, replicate, Bool, true, false, ◌&&◌, ◌||◌, nat_lt, slice_get, unwrap_or}
use Rattle.std.specs.Cmp.Lexicographic.{slice_cmp}
use Rattle.std.specs.List.{AllPairs}
use Rattle.std.specs.Ordering.{is_lt, nat_cmp}
use Rattle.nc_base.specs.declared.request.Region.{Region}

-- the ranges from the starts meet in each dimension
abbrev pub boxes_meet : List ℕ → List ℕ → List ℕ → List ℕ → Bool
boxes_meet (s ∷ starts) (n ∷ counts) (t ∷ others) (m ∷ lengths) = nat_lt (max s t) (min (s + n) (t + m)) && boxes_meet starts counts others lengths
boxes_meet [] [] [] [] = true
boxes_meet _ _ _ _ = false

-- a region of strides 1 shares an index with one of others of its kind, by their ranges
abbrev pub meets_any : Region → List Region → Bool
meets_any g [] = false
meets_any g (other ∷ others) = boxes_meet g.start g.count other.start other.count || meets_any g others

abbrev pub some_meet : List Region → Bool
some_meet [] = false
some_meet (g ∷ regions) = meets_any g regions || some_meet regions

-- one start and one count for each dimension, with strides of 1
abbrev pub IsBox : ℕ → Region → Type 0
IsBox dims g = (length g.start ≡ dims) × (length g.count ≡ dims) × (g.stride ≡ replicate dims 1)

-- the index comes after the last one of the box, in row-major order
abbrev pub is_past : List ℕ → List ℕ → List ℕ → Bool
is_past (s ∷ starts) (n ∷ counts) (x ∷ index) = nat_lt (s + n) (x + 1) || (x + 1 == s + n && is_past starts counts index)
is_past _ _ _ = false

-- a list of one number for each dimension, with that of one of them before it
abbrev pub led_by : ℕ → ℕ → List ℕ → List ℕ
led_by axis none xs = unwrap_or (slice_get xs axis) none ∷ xs

-- the other region begins past the last index of the first, in row-major order with an axis before all dimensions
abbrev pub begins_past : ℕ → Region → Region → Bool
begins_past axis g other = is_past (led_by axis 0 g.start) (led_by axis 1 g.count) (led_by axis 0 other.start)

-- the first region does not begin after the other, in that order
abbrev pub BeginsBy : ℕ → Region → Region → Type 0
BeginsBy axis g h = is_lt (slice_cmp nat_cmp (led_by axis 0 h.start) (led_by axis 0 g.start)) ≡ false

abbrev pub AreByStart : ℕ → List Region → Type 0
AreByStart axis regions = AllPairs (BeginsBy axis) regions
