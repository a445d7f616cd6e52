-- The windows of all domains, domain after domain.
use Rattle.nc_classic_c.proofs.Words.{and_from, lt-ltb, ◌≡◌, ◌↔◌, ℕ, zero, suc, ◌+◌, ◌-◌, ◌/◌, ◌^◌, ◌<◌, ◌≤◌, List, [], ◌∷◌, ◌++◌, length, map, Bool, true, refl, ap, ◌∙◌, leb, arith, length-append, filter, flat_map, nat_lt, nat_le, ◌==◌, range_with_len, enumerate_from, le-leb, leb-true, length-map, map-map, equal_true, and_first, and_second, Extent, first_of, windows, spans, low_of, share_of, LiesIn, bytes_in, round_windows, window_told, Window, In, IsAscending, told_of, walked, filter_two, filter_ascends, first_least, last_most, windows_walked, Division, NcvWindow, end_of, is_division, shown, step_windows, window_shown, nat_tests, filter_at_most, sym, ltb-true, eqb-true}
use Rattle.overlay_laws.proofs.DomainLaws.{share}
use Rattle.overlay_laws.proofs.HullLaws.{ascending_few}

-- ---- a division within its limits

pub record AreDivided (d : Division) : Type 0 where
  pub some : 1 ≤ d.aggregators
  pub few : d.aggregators ≤ 64
  pub least_unit : 1 ≤ d.unit
  pub greatest_unit : d.unit ≤ 2 ^ 25
  pub buffer : 1 ≤ d.buffer

pub divided : (d : Division) → is_division d ≡ true → AreDivided d
divided d h = grind (arith, nat_tests, and_first, leb, leb-true, and_second)

-- ---- the bytes of a domain

same_tests : (s t : Bool) → (s ≡ true → t ≡ true) → (t ≡ true → s ≡ true) → s ≡ t
same_tests s t f g = grind (arith, nat_tests, f, g)

-- the covered bytes of a domain are those of its share
share_is : (cover : List Extent) (e : Extent) (lo hi low s a : ℕ) → ((x : ℕ) → LiesIn e x ↔ ((lo ≤ x) × (x < hi) × ((x - low) / s ≡ a)))
    → ((x : ℕ) → In (spans cover) x → (lo ≤ x) × (x < hi)) → bytes_in e cover ≡ share low s (spans cover) a
share_is cover e lo hi low s a cut within =
    filter_two (λ x. (x - low) / s == a) (λ y. nat_lt y (e.at + e.len)) (λ y. nat_le e.at y) (spans cover)
    (λ y m. same_tests _ _
    (λ t. let l = (cut y).1 ((within y m).0, (within y m).1, eqb-true _ _ t) in and_from _ _ (lt-ltb _ _ l.1) (le-leb _ _ l.0))
    (λ t. equal_true _ _ ((cut y).0 (leb-true _ _ (and_second (nat_lt y (e.at + e.len)) _ t), ltb-true _ _ (and_first _ (nat_le e.at y) t))).2))

within_ends : (bytes : List ℕ) (x : ℕ) → IsAscending bytes → In bytes x → (first_of bytes ≤ x) × (x < end_of bytes)
within_ends bytes x h m = grind (arith, nat_tests, last_most, first_least)

-- ---- the windows of a domain

abbrev pub share_windows : ℕ → ℕ → Division → List ℕ → ℕ → List NcvWindow
share_windows lo hi d bytes a = map (window_shown a) (windows d.buffer (share (low_of lo d.unit) (share_of lo hi d.aggregators d.unit) bytes a))

domain_windows : (d : Division) (lo hi : ℕ) (cover : List Extent) (e : Extent) (a : ℕ) (left : List Window) → IsAscending (spans cover)
    → lo ≡ first_of (spans cover) → hi ≡ end_of (spans cover)
    → ((x : ℕ) → LiesIn e x ↔ ((lo ≤ x) × (x < hi) × ((x - low_of lo d.unit) / share_of lo hi d.aggregators d.unit ≡ a)))
    → left ≡ round_windows d.buffer (bytes_in e cover) → map (shown a) left ≡ share_windows lo hi d (spans cover) a
domain_windows d lo hi cover e a left asc begin end cut is =
    let within : (x : ℕ) → In (spans cover) x → (lo ≤ x) × (x < hi) = λ x m. (let w = within_ends (spans cover) x asc m in let l = w.0 in let h = w.1 in (omega arith, omega arith)) in
    let bytes = bytes_in e cover in
    let low = low_of lo d.unit in
    let s = share_of lo hi d.aggregators d.unit in
    ap (λ (ws : List Window). map (shown a) ws) is
    ∙ map-map (shown a) (window_told (first_of bytes) d.buffer) (map told_of (windows d.buffer bytes))
    ∙ map-map (λ t. shown a (window_told (first_of bytes) d.buffer t)) told_of (windows d.buffer bytes)
    ∙ ap (λ (b : List ℕ). map (window_shown a) (windows d.buffer b)) (share_is cover e lo hi low s a cut within)

-- ---- those of all domains

numbered : {X Y : Type 0} (g : ℕ × X → List Y) (f : ℕ → X) (k n : ℕ) → flat_map g (enumerate_from k (map f (range_with_len k n))) ≡ flat_map (λ a. g (a, f a)) (range_with_len k n)
numbered g f k zero = refl
numbered {X} {Y} g f k (suc n) = ap (λ (l : List Y). g (k, f k) ++ l) (numbered g f (k + 1) n)

-- those from domain a on
abbrev pub windows_from : ℕ → ℕ → Division → List ℕ → ℕ → List NcvWindow
windows_from lo hi d bytes a = flat_map (share_windows lo hi d bytes) (range_with_len a (d.aggregators - a))

pub all_windows : (lo hi : ℕ) (d : Division) (bytes : List ℕ) → lo ≡ first_of bytes → hi ≡ end_of bytes → windows_from lo hi d bytes 0 ≡ step_windows d bytes
all_windows lo hi d bytes e f = grind (arith, nat_tests, numbered)

-- a domain's windows, and those of the domains behind it
pub record IsNext (lo hi : ℕ) (d : Division) (bytes : List ℕ) (a : ℕ) (left : List Window) : Type 0 where
  pub parts : windows_from lo hi d bytes a ≡ map (shown a) left ++ windows_from lo hi d bytes (a + 1)
  pub many : length (windows_from lo hi d bytes a) ≡ length left + length (windows_from lo hi d bytes (a + 1))

pub next_windows : (d : Division) (lo hi : ℕ) (cover : List Extent) (e : Extent) (a : ℕ) (left : List Window) → a < d.aggregators → IsAscending (spans cover)
    → lo ≡ first_of (spans cover) → hi ≡ end_of (spans cover)
    → ((x : ℕ) → LiesIn e x ↔ ((lo ≤ x) × (x < hi) × ((x - low_of lo d.unit) / share_of lo hi d.aggregators d.unit ≡ a)))
    → left ≡ round_windows d.buffer (bytes_in e cover) → IsNext lo hi d (spans cover) a left
next_windows d lo hi cover e a left h asc begin end cut is =
    let more : d.aggregators - a ≡ suc (d.aggregators - (a + 1)) = omega arith in
    let rest = windows_from lo hi d (spans cover) (a + 1) in
    let parts = ap (λ (n : ℕ). flat_map (share_windows lo hi d (spans cover)) (range_with_len a n)) more
    ∙ ap (λ (l : List NcvWindow). l ++ rest) (sym (domain_windows d lo hi cover e a left asc begin end cut is)) in
    record { parts = parts; many = ap length parts ∙ length-append (map (shown a) left) rest ∙ ap (λ (n : ℕ). n + length rest) (length-map left (shown a)) }

pub no_windows : (lo hi : ℕ) (d : Division) (bytes : List ℕ) (a : ℕ) → d.aggregators ≤ a → windows_from lo hi d bytes a ≡ []
no_windows lo hi d bytes a h = grind (arith, nat_tests)

-- ---- how many there are: no more than bytes

walked_few : (stop : ℕ → ℕ) (fuel : ℕ) (bytes : List ℕ) → length (walked stop fuel bytes) ≤ fuel
walked_few stop zero bytes = omega arith
walked_few stop (suc fuel) [] = omega arith
walked_few stop (suc fuel) (x ∷ bytes) = omega (arith, walked_few stop fuel (filter (λ y. nat_le (stop x) y) bytes))

windows_few : (buffer : ℕ) (bytes : List ℕ) → 1 ≤ buffer → IsAscending bytes → length (windows buffer bytes) ≤ length bytes
windows_few buffer bytes h asc = grind (arith, nat_tests, windows_walked, walked_few)

-- the numbers whose f is a, and those whose f is more
split_few : (f : ℕ → ℕ) (a : ℕ) (xs : List ℕ) → length (filter (λ x. f x == a) xs) + length (filter (λ x. nat_le (a + 1) (f x)) xs) ≤ length (filter (λ x. nat_le a (f x)) xs)
split_few f a [] = omega arith
split_few f a (x ∷ xs) = grind (arith, nat_tests, split_few f a xs)

shares_few : (lo hi : ℕ) (d : Division) (bytes : List ℕ) (a n : ℕ) → 1 ≤ d.buffer → IsAscending bytes
    → length (flat_map (share_windows lo hi d bytes) (range_with_len a n)) ≤ length (filter (λ x. nat_le a ((x - low_of lo d.unit) / share_of lo hi d.aggregators d.unit)) bytes)
shares_few lo hi d bytes a zero h asc = omega arith
shares_few lo hi d bytes a (suc n) h asc =
    let f : ℕ → ℕ = λ x. (x - low_of lo d.unit) / share_of lo hi d.aggregators d.unit in
    let own = share (low_of lo d.unit) (share_of lo hi d.aggregators d.unit) bytes a in
    let rest = shares_few lo hi d bytes (a + 1) n h asc in
    let both = length-append (share_windows lo hi d bytes a) (flat_map (share_windows lo hi d bytes) (range_with_len (a + 1) n)) in
    grind (arith, nat_tests, f, own, rest, both, length-map (windows d.buffer own) (window_shown a), split_few f a bytes, windows_few, filter_ascends)

pub windows_few_in_all : (lo hi : ℕ) (d : Division) (bytes : List ℕ) → 1 ≤ d.buffer → IsAscending bytes → hi ≡ end_of bytes → length (windows_from lo hi d bytes 0) ≤ hi
windows_few_in_all lo hi d bytes h asc end =
    let few = ascending_few bytes 0 hi asc (λ x m. (let high = (within_ends bytes x asc m).1 in (omega arith, omega arith))) in
    omega (arith, shares_few lo hi d bytes 0 (d.aggregators - 0) h asc, filter_at_most (λ x. nat_le 0 ((x - low_of lo d.unit) / share_of lo hi d.aggregators d.unit)) bytes)
