-- The bytes between slabs.
use Rattle.redef_laws.proofs.Words.{◌≡◌, ℕ, zero, suc, ◌+◌, ◌-◌, ◌<◌, ◌≤◌, refl, ◌∙◌, ap, inl, inr, List, [], ◌∷◌, ◌++◌, length, Bool, true, ◌&&◌, arith, append-nil, div_below, filter, flat_map, nat_le, nat_lt, ◌==◌, range_with_len, list_any, length-range_with_len, or_cases, equal_above, equal_true, range_append, DiskCall, Slab, run_before, runs, stores, first_of, In, HaveSame, range_low, range_high, in_either, filter_same, filter_none, filter_all, gaps, IsRisen, filter-append, any_member, nat_tests, either, not}

-- x is one of the slab's bytes in the new file
abbrev pub covers : ℕ → Slab → Bool
covers x s = nat_le s.to x && nat_lt x (s.to + s.len)

-- x is a byte of none of the slabs
abbrev pub is_bare : List Slab → ℕ → Bool
is_bare ss x = not (list_any (λ s. covers x s) ss)

-- the bytes of a gap
abbrev pub gap_bytes : ℕ × ℕ → List ℕ
gap_bytes g = range_with_len g.0 g.1

-- ---- the bare bytes are those of the gaps

bare_before : (a b x : ℕ) (ss : List Slab) → IsRisen a b ss → x < b → is_bare ss x ≡ true
bare_before a b x [] h k = refl
bare_before a b x (s ∷ ss) h k = grind (arith, nat_tests, bare_before (s.from + s.len) (s.to + s.len) x ss h.4, h.2, is_bare, covers)

-- all slabs end before `end`
abbrev pub EndsBy : ℕ → List Slab → Type 0
EndsBy end ss = (s : Slab) → In ss s → s.to + s.len ≤ end

bare_gaps : (a b end : ℕ) (ss : List Slab) → IsRisen a b ss → b ≤ end → EndsBy end ss
    → filter (is_bare ss) (range_with_len b (end - b)) ≡ flat_map gap_bytes (gaps b end ss)
bare_gaps a b end [] h k l = grind (arith, nat_tests, filter_all, append-nil)
bare_gaps a b end (s ∷ ss) h k l =
    let left = end - (s.to + s.len) in
    let last = l s (inl refl) in
    let parts : end - b ≡ (s.to - b) + (s.len + left) = omega (arith, h.2, last) in
    let none_before : filter (is_bare (s ∷ ss)) (range_with_len b (s.to - b)) ≡ range_with_len b (s.to - b) = grind (arith, nat_tests, filter_all, bare_before, range_high, h.0, h.1, h.3, h.4, h.2) in
    let all_inside : filter (is_bare (s ∷ ss)) (range_with_len s.to s.len) ≡ [] = grind (arith, nat_tests, filter_none, range_low, range_high, h.2, covers) in
    let same_past : filter (is_bare (s ∷ ss)) (range_with_len (s.to + s.len) left) ≡ filter (is_bare ss) (range_with_len (s.to + s.len) left) = grind (arith, nat_tests, filter_same, range_low, h.2, not, list_any, covers, filter, is_bare) in
    grind (arith, nat_tests, parts, h.2, range_append b (s.to - b) (s.len + left), range_append s.to s.len left, filter-append, none_before, all_inside, same_past, bare_gaps (s.from + s.len) (s.to + s.len) end ss h.4 last (λ t m. l t (inr m)))

-- ---- runs of bytes

run_starts : (x : ℕ) (others : List (List ℕ)) → (ys : List ℕ) × (rest : List (List ℕ)) × (run_before x others ≡ (x ∷ ys) ∷ rest)
run_starts x ((y ∷ ys) ∷ others) =
    either (λ (ls : List (List ℕ)). (zs : List ℕ) × (rest : List (List ℕ)) × (ls ≡ (x ∷ zs) ∷ rest)) (y == x + 1) _ _ (λ e. (y ∷ ys, others, refl)) (λ e. ([], (y ∷ ys) ∷ others, refl))
run_starts x others = ([], others, refl)

-- a number that none follows at once is a run
run_alone : (x : ℕ) (rest : List ℕ) → ((y : ℕ) → In rest y → x + 1 < y) → run_before x (runs rest) ≡ (x ∷ []) ∷ runs rest
run_alone x [] h = refl
run_alone x (y ∷ ys) h = let s = run_starts y (runs ys) in grind (arith, nat_tests, s.2, equal_above y (x + 1) (h y (inl refl)), run_before, runs)

-- numbers one after another, and then a greater one, or none
run_of_range : (a n : ℕ) (rest : List ℕ) → ((y : ℕ) → In rest y → a + suc n < y) → runs (range_with_len a (suc n) ++ rest) ≡ range_with_len a (suc n) ∷ runs rest
run_of_range a zero rest h = run_alone a rest (λ y m. let l = h y m in omega arith)
run_of_range a (suc n) rest h = grind (arith, nat_tests, run_of_range (a + 1) n rest, equal_true, range_with_len)

-- ---- gaps, each behind a byte that is in none

abbrev AreSeparate : ℕ → List (ℕ × ℕ) → Type 0
AreSeparate at [] = Unit {0}
AreSeparate at (g ∷ gs) = (at ≤ g.0) × AreSeparate (g.0 + g.1 + 1) gs

gaps_separate : (at a b end : ℕ) (ss : List Slab) → at ≤ b → IsRisen a b ss → AreSeparate at (gaps b end ss)
gaps_separate at a b end [] l h = (l, tt)
gaps_separate at a b end (s ∷ ss) l h = (l, gaps_separate (b + (s.to - b) + 1) (s.from + s.len) (s.to + s.len) end ss (omega (arith, h.0, h.2)) h.4)

gap_bytes_past : (at : ℕ) (gs : List (ℕ × ℕ)) (y : ℕ) → AreSeparate at gs → In (flat_map gap_bytes gs) y → at ≤ y
gap_bytes_past at [] y h m = absurd m
gap_bytes_past at (g ∷ gs) y h m = grind (arith, nat_tests, gap_bytes_past (g.0 + g.1 + 1) gs y h.1, in_either, range_low)

-- ---- the calls that write zeros

stores_none : (z from : ℕ) → 0 < z → stores z from 0 ≡ []
stores_none z from h = grind (arith, nat_tests, div_below (0 + (z - 1)) z 1 (omega arith) (omega arith))

abbrev pub run_stores : ℕ → List ℕ → List DiskCall
run_stores z r = stores z (first_of r) (length r)

abbrev pub gap_stores : ℕ → ℕ × ℕ → List DiskCall
gap_stores z g = stores z g.0 g.1

stores_of_gaps : (z at : ℕ) (gs : List (ℕ × ℕ)) → 0 < z → AreSeparate at gs
    → flat_map (run_stores z) (runs (flat_map gap_bytes gs)) ≡ flat_map (gap_stores z) gs
stores_of_gaps z at [] h k = refl
stores_of_gaps z at ((from, zero) ∷ gs) h k = grind (arith, nat_tests, stores_of_gaps z (from + 0 + 1) gs h k.1, stores_none)
stores_of_gaps z at ((from, suc n) ∷ gs) h k =
    grind (arith, nat_tests, stores_of_gaps z (from + suc n + 1) gs h k.1, run_of_range, gap_bytes_past, length-range_with_len)

-- ---- lists with the same members

any_found : (t : Slab → Bool) (ss : List Slab) → list_any t ss ≡ true → (s : Slab) × In ss s × (t s ≡ true)
any_found t [] h = cc
any_found t (u ∷ ss) h = grind (arith, nat_tests, any_found t ss, or_cases)

any_same : (t : Slab → Bool) (ss rs : List Slab) → HaveSame ss rs → list_any t ss ≡ list_any t rs
any_same t ss rs h = grind (arith, nat_tests, any_found, any_member)

-- The runs of the bytes that are in no slab get the calls of the gaps between the slabs as they rise.
pub zeros_between : (z old_first first end : ℕ) (ss rs : List Slab) → 0 < z → IsRisen old_first first rs → first ≤ end → EndsBy end rs → HaveSame ss rs
    → flat_map (run_stores z) (runs (filter (is_bare ss) (range_with_len first (end - first)))) ≡ flat_map (gap_stores z) (gaps first end rs)
zeros_between z old_first first end ss rs h k l m n =
    ap (λ b. flat_map (run_stores z) (runs b))
    (filter_same (is_bare ss) (is_bare rs) (range_with_len first (end - first)) (λ y g. ap not (any_same (covers y) ss rs n))
    ∙ bare_gaps old_first first end rs k l m)
    ∙ stores_of_gaps z first (gaps first end rs) h (gaps_separate first old_first first end rs (omega arith) k)
