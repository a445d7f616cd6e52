-- The bytes of a file with zeros in a gap, and the windows of a gap.
use Rattle.redef_mover.proofs.Words.{◌≡◌, ℕ, zero, suc, ◌+◌, ◌-◌, ◌*◌, ◌<◌, ◌≤◌, min, refl, sym, ◌∙◌, ap, List, [], ◌∷◌, ◌++◌, length, map, take, drop, get_or, arith, flat_map, replicate, range_with_len, drop_of_length-le, drop_more, length-replicate, take-replicate, same_file, Slab, stores, at, written, at-written_before, at-written_after, length-written_inside, at-written_inside, gaps, Shift, Slabs, behind, cleared, further, gaps_before, listed, slab_of, slabs_at, AreClearable, AreSpaced, windows_of, count_is, stores_before, nat_tests}
use Rattle.redef_mover.proofs.MovesLaws.{map_id, no_further}

-- ---- one gap

zeros_long : (n : ℕ) → length {A = ℕ} (replicate n 0) ≡ n
zeros_long n = length-replicate {A = ℕ} n 0

zero_at : (n k : ℕ) → ◌≡◌ {A = ℕ} (get_or (replicate n 0) k 0) 0
zero_at zero k = refl
zero_at (suc n) zero = refl
zero_at (suc n) (suc k) = zero_at n k

pub cleared_long : (file : List ℕ) (x n : ℕ) → x + n ≤ length file → length (cleared file (x, n)) ≡ length file
cleared_long file x n h = let bytes = zeros_long n in length-written_inside file x (replicate n 0) (omega arith)

pub cleared_before : (file : List ℕ) (x n y : ℕ) → y < x → at (cleared file (x, n)) y ≡ at file y
cleared_before file x n y h = at-written_before file (replicate n 0) x y h

pub cleared_after : (file : List ℕ) (x n y : ℕ) → x + n ≤ y → at (cleared file (x, n)) y ≡ at file y
cleared_after file x n y h = let bytes = zeros_long n in at-written_after file (replicate n 0) x y (omega arith)

pub cleared_inside : (file : List ℕ) (x n y : ℕ) → x ≤ y → y < x + n → at (cleared file (x, n)) y ≡ 0
cleared_inside file x n y h k = let bytes = zeros_long n in at-written_inside file (replicate n 0) x y h (omega arith) ∙ zero_at n (y - x)

-- ---- one window more

-- the bytes of a window are zeros
pub window_zeros : (zeros bytes : List ℕ) (n : ℕ) → zeros ≡ replicate (length zeros) 0 → n ≤ length zeros → bytes ≡ take n zeros → bytes ≡ replicate n 0
window_zeros zeros bytes n e h k = k ∙ ap (λ (zs : List ℕ). take n zs) e ∙ take-replicate {X = ℕ} n (length zeros) 0 h

pub zeros_count : (bytes : List ℕ) (n : ℕ) → bytes ≡ replicate n 0 → length bytes ≡ n
zeros_count bytes n e = ap (λ (b : List ℕ). length b) e ∙ zeros_long n

pub window_cleared : (file bytes : List ℕ) (x len z j n place from : ℕ) → x + len ≤ length file → j * z < len → n ≡ min z (len - j * z) → bytes ≡ replicate n 0
    → from ≡ 0 → place ≡ x + j * z → written (cleared file (x, min len (j * z))) (place - from) bytes ≡ cleared file (x, min len ((j + 1) * z))
window_cleared file bytes x len z j n place from h l k b f e =
    grind (arith, nat_tests, cleared_long, same_file, cleared_before, cleared_inside, cleared_after, cleared)

-- ---- the stores so far

pub all_stored : (z x len j count : ℕ) → 0 < z → j ≡ count → count ≡ windows_of z len → stores_before z x len j ≡ stores z x len
all_stored z x len j count h e k = ap (λ (i : ℕ). stores_before z x len i) (e ∙ k ∙ count_is z len h)

-- ---- slabs that are left, from the first one on

pub none_behind : (at whole : ℕ) (ss : List Slab) → ss ≡ [] → behind at ss ≡ whole → at ≡ whole
none_behind at whole ss e h = ap (λ xs. behind at xs) (sym e) ∙ h

pub slabs_left : (a b : ℕ) (ss : List Shift) (k : ℕ) (d : Shift) → k < length ss
    → map (further a b) (map slab_of (drop k ss)) ≡ further a b (slab_of (get_or ss k d)) ∷ map (further a b) (map slab_of (drop (k + 1) ss))
slabs_left a b ss k d h = ap (λ xs. map (further a b) (map slab_of xs)) (drop_more ss k d h)

pub none_after : (a b : ℕ) (ss : List Shift) (k : ℕ) → length ss ≤ k → map (further a b) (map slab_of (drop k ss)) ≡ []
none_after a b ss k h = ap (λ xs. map (further a b) (map slab_of xs)) (drop_of_length-le ss h)

-- the first of them, its gap and what is behind it
pub record IsFirst (long z room at : ℕ) (s : Slab) (others : List Slab) : Type 0 where
  pub low : at ≤ s.to
  pub inside : s.to + s.len ≤ long
  pub fits : min z (s.to - at) ≤ room
  pub rest : AreClearable long z room (s.to + s.len) others

pub spaced_low : (at end : ℕ) (ss : List Slab) → AreSpaced at end ss → at ≤ end
spaced_low at end [] h = h
spaced_low at end (s ∷ others) h = let low : at ≤ s.to = h.0 in let rest = spaced_low (s.to + s.len) end others h.1 in omega arith

pub first_clearable : (long z room at : ℕ) (s : Slab) (others ss : List Slab) → ss ≡ s ∷ others → AreClearable long z room at ss → IsFirst long z room at s others
first_clearable long z room at s others ss e h = grind (arith, nat_tests, spaced_low)

-- the first of the slabs that are left
pub first_left : (long z room at a b : ℕ) (ss : List Shift) (k : ℕ) (d : Shift) → k < length ss → AreClearable long z room at (map (further a b) (map slab_of (drop k ss)))
    → IsFirst long z room at (further a b (slab_of (get_or ss k d))) (map (further a b) (map slab_of (drop (k + 1) ss)))
first_left long z room at a b ss k d h c =
    first_clearable long z room at (further a b (slab_of (get_or ss k d))) (map (further a b) (map slab_of (drop (k + 1) ss))) (map (further a b) (map slab_of (drop k ss)))
    (slabs_left a b ss k d h) c

-- ---- the slabs of records that are left

pub gaps_append : (at end : ℕ) (ss others : List Slab) → gaps at end (ss ++ others) ≡ gaps_before at ss ++ gaps (behind at ss) end others
gaps_append at end [] others = refl
gaps_append at end (s ∷ ss) others = ap (λ gs. (at, s.to - at) ∷ gs) (gaps_append (s.to + s.len) end ss others)

pub spaced_front : (at end : ℕ) (ss others : List Slab) → AreSpaced at end (ss ++ others) → AreSpaced at end ss
spaced_front at end [] others h = spaced_low at end others h
spaced_front at end (s ∷ ss) others h = (h.0, spaced_front (s.to + s.len) end ss others h.1)

pub spaced_rest : (at end : ℕ) (ss others : List Slab) → AreSpaced at end (ss ++ others) → AreSpaced (behind at ss) end others
spaced_rest at end [] others h = h
spaced_rest at end (s ∷ ss) others h = spaced_rest (s.to + s.len) end ss others h.1

-- the slabs of the records from this one on
abbrev pub above : Slabs → ℕ → List Slab
above slabs r = flat_map (slabs_at slabs.step slabs.records.items) (range_with_len r (slabs.count - r))

pub next_record : (slabs : Slabs) (xs : List Shift) (r a b : ℕ) → xs ≡ slabs.records.items → r < slabs.count → a ≡ r * slabs.step.old → b ≡ r * slabs.step.new
    → above slabs r ≡ map (further a b) (map slab_of xs) ++ above slabs (r + 1)
next_record slabs xs r a b is l e f = grind (arith, nat_tests)

pub fixed_first : (slabs : Slabs) (xs : List Shift) (a b : ℕ) → xs ≡ slabs.fixed.items → a ≡ 0 → b ≡ 0 → listed slabs ≡ map (further a b) (map slab_of xs) ++ above slabs 0
fixed_first slabs xs a b is e f = grind (arith, nat_tests, map_id, no_further)

-- the slabs in front can be cleared
pub front_clearable : (long z room at end : ℕ) (ss others all : List Slab) → all ≡ ss ++ others → AreSpaced at end all → end ≤ long → min z end ≤ room
    → AreClearable long z room at ss
front_clearable long z room at end ss others all e h inside fits = grind (arith, nat_tests, spaced_front)

pub spaced_on : (at place end : ℕ) (ss others all : List Slab) → all ≡ ss ++ others → place ≡ behind at ss → AreSpaced at end all → AreSpaced place end others
spaced_on at place end ss others all e p h = grind (arith, nat_tests, spaced_rest)

pub gaps_on : (at place end : ℕ) (ss others all : List Slab) → all ≡ ss ++ others → place ≡ behind at ss → gaps at end all ≡ gaps_before at ss ++ gaps place end others
gaps_on at place end ss others all e p = grind (arith, nat_tests, gaps_append at end ss others)
