-- The first window of what is left, as it is told and as one of the windows of sieving.
use Rattle.data_sieving.proofs.Words.{◌≡◌, ℕ, ◌+◌, ◌-◌, ◌^◌, ◌<◌, ◌≤◌, List, [], ◌∷◌, length, true, false, arith, filter, nat_lt, nat_le, ◌==◌, range_with_len, length-range_with_len, le-leb, lt-leb, in_filter, filter_in, Owned, Window, first_of, hull_len, In, told_of, filter_at_most, filter_ascends, in_range, range_low, range_high, range_ascends, last_most, last_below, drop_first, filter_all, sieved_walked, same_ascending, triple_same, walked_enough, told_window, entry_windows, IsCovered, IsPast, AreLeft, IsNext, bytes_from, windows_from, covered_below, past_covered, covered_past, front_covered, covered_front, hole_short, nat_tests, common_steps}
use Rattle.data_sieving.proofs.LeftBytes.{byte_from, from_byte, bytes_ascend, same_bytes, begins}

-- ---- the bytes of the window

abbrev pub window_bytes : List Owned → ℕ → ℕ → Window → List ℕ
window_bytes left place size w = filter (λ (y : ℕ). nat_lt y (w.hull.at + size)) (bytes_from place left)

module _ {left : List Owned} {place size : ℕ} {w : Window} {served : List Owned} {stop : ℕ} (l : AreLeft left place size) (n : IsNext left place size w served stop) where
  abbrev pub bytes : List ℕ
  bytes = window_bytes left place size w

  before_stop : (x : ℕ) → IsCovered left x → x < w.hull.at + size → x < stop
  before_stop x c h = grind (arith, nat_tests, n.ends, covered_below (2 ^ 62) left x l.ends c)

  in_window : (x : ℕ) → In bytes x → (w.hull.at ≤ x) × (x < w.hull.at + w.hull.len) × IsCovered served x
  in_window x m = grind (arith, nat_tests, filter_in, from_byte place left x, before_stop x, front_covered stop left served x n.front)

  window_in : (x : ℕ) → w.hull.at ≤ x → x < w.hull.at + w.hull.len → IsCovered served x → In bytes x
  window_in x h k c = grind (arith, nat_tests, in_filter, byte_from place left x, covered_front stop left served x n.front c)

  begin_window : (ys : List ℕ) × (bytes_from place left ≡ w.hull.at ∷ ys)
  begin_window = grind (arith, nat_tests, n.from, n.first, n.least, begins, bytes_ascend, byte_from, from_byte)

  -- what is told of the bytes of the window is its hull, and whether it has a hole
  pub next_told : told_of bytes ≡ told_window w
  next_told =
      let asc = filter_ascends (λ (y : ℕ). nat_lt y (w.hull.at + size)) (bytes_from place left) (bytes_ascend place left) in
      let first : first_of bytes ≡ w.hull.at = grind (arith, nat_tests, begins bytes w.hull.at asc, window_in w.hull.at, front_covered stop left served w.hull.at n.front, in_window, first_of) in
      let long : hull_len bytes ≡ w.hull.len = grind (arith, nat_tests, first, n.hull.some, last_most bytes (w.hull.at + w.hull.len - 1), window_in (w.hull.at + w.hull.len - 1), n.hull.last, last_below bytes (w.hull.at + w.hull.len) (omega arith) (λ x m. (in_window x m).1)) in
      let solid : w.full ≡ true → bytes ≡ range_with_len w.hull.at w.hull.len = λ t.
      same_ascending bytes (range_with_len w.hull.at w.hull.len) asc (range_ascends w.hull.at w.hull.len)
      (λ x m. in_range w.hull.at w.hull.len x (in_window x m).0 (in_window x m).1)
      (λ x m. grind (arith, nat_tests, range_low w.hull.at w.hull.len x m, range_high w.hull.at w.hull.len x m, window_in x, n.hull.full t x))
      in
      let short : w.full ≡ false → length bytes < w.hull.len = λ f.
      let r = n.hull.hole f in
      let s = hole_short bytes w.hull.at (w.hull.at + w.hull.len) r.0 asc (λ x m. let g = in_window x m in (g.0, g.1)) r.1 r.2 (λ m. r.3 (in_window r.0 m).2) in
      omega arith
      in
      triple_same (first_of bytes) (hull_len bytes) w.hull.at w.hull.len (length bytes == hull_len bytes) w.full first long
      (grind (arith, nat_tests, long, solid, short, length-range_with_len w.hull.at w.hull.len))

  rest_bytes : filter (λ (y : ℕ). nat_le (w.hull.at + size) y) (bytes_from place left) ≡ bytes_from stop left
  rest_bytes =
      same_ascending (filter (λ (y : ℕ). nat_le (w.hull.at + size) y) (bytes_from place left)) (bytes_from stop left)
      (filter_ascends (λ (y : ℕ). nat_le (w.hull.at + size) y) (bytes_from place left) (bytes_ascend place left)) (bytes_ascend stop left)
      (λ x m.
      grind (arith, common_steps, filter_in (λ (y : ℕ). nat_le (w.hull.at + size) y) (bytes_from place left) x m, byte_from, from_byte))
      (λ x m.
      grind (arith, common_steps, from_byte stop left x m, covered_below (2 ^ 62) left x l.ends (from_byte stop left x m).1, in_filter, byte_from place left x))

  -- a window ends past what was served before it
  pub goes_on : place < stop
  goes_on = grind (arith, nat_tests, n.from, n.hull)

-- ---- the windows that are left

past_bytes : (place : ℕ) (list left : List Owned) (stop : ℕ) → place ≤ stop → IsPast place list left → bytes_from stop list ≡ bytes_from stop left
past_bytes place list left stop h p = grind (arith, nat_tests, same_bytes, past_covered, covered_past, bytes_from)

-- the first of the windows that are left, and the others
pub windows_next : {left : List Owned} {place size : ℕ} {w : Window} {served : List Owned} {stop : ℕ} (list : List Owned) → AreLeft left place size → IsNext left place size w served stop
    → IsPast place list left → windows_from size place list ≡ window_bytes left place size w ∷ windows_from size stop list
windows_next {left} {place} {size} {w} {served} {stop} list l n p =
    let b = begin_window l n in
    grind (arith, nat_tests, goes_on l n, past_bytes place list left place, sieved_walked, walked_enough, filter_at_most, drop_first, lt-leb, rest_bytes l n, past_bytes place list left stop, window_bytes)

pub all_windows : (size : ℕ) (list : List Owned) → entry_windows size list ≡ windows_from size 0 list
all_windows size list = grind (arith, nat_tests, filter_all, le-leb)

pub no_window : (size place : ℕ) (list left : List Owned) → left ≡ [] → IsPast place list left → windows_from size place list ≡ []
no_window size place list left e p = grind (arith, nat_tests, past_bytes)
