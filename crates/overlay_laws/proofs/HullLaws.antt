-- The windows of the device calls have every covered byte, so that hulls written over them are the step.
use Rattle.overlay_laws.proofs.Words.{◌≡◌, ℕ, zero, suc, ◌+◌, ◌-◌, ◌*◌, ◌/◌, ◌%◌, ◌<◌, ◌≤◌, refl, sym, ◌∙◌, inl, inr, ◌⊎◌, List, [], ◌∷◌, length, Bool, true, not, min, max, arith, nat_tests, div_below, le-div, mod_below, div-add-mod', mul-le, mul_comm, fold, filter, map, nat_lt, nat_le, ◌==◌, range_with_len, list_any, in_filter, filter_in, equal_true, puts_are_cells, puts_say, Header, Hints, Puts, covered, Setting, put_post, in_order, first_of, last_of, not_empty, domain_size, domains, windows, collective_windows, sieved, sieving_windows, is_empty, Cell, said_at, said_by, Says, IsWithin, IsInOne, HasEach, said_by_puts, In, cells_of_puts, hulls, IsAscending, written_over, AreHints, filter_at_most, leb_tells, cases_eq, common_steps, at_in, Some}
pub use Rattle.overlay_laws.proofs.Members.{flat_in, in_either, in_map, map_in, in_left, in_right, in_flat, any_in}
use Rattle.overlay_laws.proofs.SaidLaws.{said_is, same_said}
use Rattle.overlay_laws.proofs.EntryLaws.{says_cases}
use Rattle.overlay_laws.proofs.WindowLaws.{windows_done}
use Rattle.overlay_laws.proofs.ShareLaws.{zip_at}

-- ---- members of lists

pub in_range : (a n x : ℕ) → a ≤ x → x < a + n → In (range_with_len a n) x
in_range a zero x h k = absurd (omega arith)
in_range a (suc n) x h k = elim (cases_eq a x) [ inl e ↦ inl e | inr m ↦ inr (in_range (a + 1) n x (omega arith) (omega arith)) ]

pub range_low : (a n x : ℕ) → In (range_with_len a n) x → a ≤ x
range_low a zero x h = absurd h
range_low a (suc n) x xs = grind (arith, nat_tests, range_low (a + 1) n x)

pub range_high : (a n x : ℕ) → In (range_with_len a n) x → x < a + n
range_high a zero x h = absurd h
range_high a (suc n) x xs = grind (arith, nat_tests, range_high (a + 1) n x)

pub in_any : (xs : List ℕ) (x : ℕ) → In xs x → list_any (λ z. z == x) xs ≡ true
in_any [] x h = absurd h
in_any (y ∷ ys) x xs = grind (arith, nat_tests, equal_true y x, in_any ys x)

-- ---- ascending lists

pub range_ascends : (a n : ℕ) → IsAscending (range_with_len a n)
range_ascends a zero = tt
range_ascends a (suc n) = grind (arith, nat_tests, range_low (a + 1) n, range_ascends (a + 1) n)

pub filter_ascends : (t : ℕ → Bool) (xs : List ℕ) → IsAscending xs → IsAscending (filter t xs)
filter_ascends t [] h = tt
filter_ascends t (x ∷ xs) h = grind (arith, nat_tests, filter_ascends t xs h.1, h.0, filter_in t xs)

pub first_least : (xs : List ℕ) (x : ℕ) → IsAscending xs → In xs x → first_of xs ≤ x
first_least xs x h k = grind (arith, nat_tests)

pub last_most : (xs : List ℕ) (x : ℕ) → In xs x → x ≤ last_of xs
last_most [] x h = absurd h
last_most (y ∷ ys) x xs = grind (arith, nat_tests, last_most ys x)

pub last_below : (xs : List ℕ) (n : ℕ) → 1 ≤ n → ((x : ℕ) → In xs x → x < n) → last_of xs + 1 ≤ n
last_below [] n l h = omega arith
last_below (y ∷ ys) n l h = let a = h y (inl refl) in let b = last_below ys n l (λ x k. h x (inr k)) in omega arith

-- no more than lie between two places
pub ascending_few : (xs : List ℕ) (lo hi : ℕ) → IsAscending xs → ((x : ℕ) → In xs x → (lo ≤ x) × (x < hi)) → length xs ≤ hi - lo
ascending_few [] lo hi h within = omega arith
ascending_few (x ∷ xs) lo hi h within = grind (arith, nat_tests, ascending_few xs (x + 1) hi h.1, h.0, within x (inl refl), within)

-- ---- the covered bytes in order

least_low : (x : ℕ) (xs : List ℕ) (y : ℕ) → (y ≡ x) ⊎ In xs y → fold (λ a b. min a b) x xs ≤ y
least_low x [] y xs = grind (arith, nat_tests)
least_low x (z ∷ xs) y ys = grind (arith, nat_tests, least_low (min x z) xs (min x z), least_low (min x z) xs y)

pub in_in_order : (xs : List ℕ) (y : ℕ) → In xs y → In (in_order xs) y
in_in_order xs y h = grind (arith, nat_tests, least_low, last_most, in_filter, in_range, in_any)

pub in_order_in : (xs : List ℕ) (y : ℕ) → In (in_order xs) y → In xs y
in_order_in xs y h = grind (arith, nat_tests, any_in, filter_in)

pub in_order_ascends : (xs : List ℕ) → IsAscending (in_order xs)
in_order_ascends xs = grind (arith, nat_tests, filter_ascends, range_ascends)

-- ---- a window that has the byte

pub record HasWindow (ws : List (List ℕ)) (x : ℕ) : Type 0 where
  pub window : List ℕ
  pub is_one : In ws window
  pub has : In window x
  pub ascends : IsAscending window

not_empty_has : (w : List ℕ) (x : ℕ) → In w x → not (is_empty w) ≡ true
not_empty_has w x h = grind (arith, nat_tests)

has_hull : (ws : List (List ℕ)) (w : List ℕ) (x : ℕ) → In ws w → In w x → IsAscending w → HasEach (hulls ws) x
has_hull [] w x h k g = absurd h
has_hull (v ∷ ws) w x xs k g = grind (arith, nat_tests, first_least, last_most, has_hull ws w x)

-- ---- division

pub ceil_covers : (n k : ℕ) → 1 ≤ k → n ≤ (n + (k - 1)) / k * k
ceil_covers n k h = grind (arith, nat_tests, div-add-mod', mod_below)

pub div_grows : (m n k : ℕ) → 1 ≤ k → m ≤ n → m / k ≤ n / k
div_grows m n k h l = let whole = div-add-mod' m k in le-div (m / k) n k (omega arith) (omega arith)

-- ---- windows of a domain

pub windows_have : (buffer : ℕ) (bytes : List ℕ) (x : ℕ) → 1 ≤ buffer → IsAscending bytes → In bytes x → HasWindow (windows buffer bytes) x
windows_have buffer bytes x h asc k =
    let lo = first_of bytes in
    grind (arith, common_steps, last_most bytes x k, div_grows (x - lo) (last_of bytes - lo) buffer h, last_of bytes, in_filter (λ y. (y - lo) / buffer == (x - lo) / buffer) bytes x k, equal_true ((x - lo) / buffer) ((x - lo) / buffer), in_filter (λ (w : List ℕ). not (is_empty w)) (map (λ j. filter (λ y. (y - lo) / buffer == j) bytes) (range_with_len 0 ((last_of bytes - lo) / buffer + 1))), in_map (λ j. filter (λ y. (y - lo) / buffer == j) bytes) (range_with_len 0 ((last_of bytes - lo) / buffer + 1)) ((x - lo) / buffer), in_range 0 ((last_of bytes - lo) / buffer + 1) ((x - lo) / buffer), not_empty_has (filter (λ y. (y - lo) / buffer == (x - lo) / buffer) bytes) x, filter_ascends (λ y. (y - lo) / buffer == (x - lo) / buffer) bytes asc)

-- ---- domains

domains_have : (nodes unit : ℕ) (bytes : List ℕ) (x : ℕ) → 1 ≤ nodes → 1 ≤ unit → IsAscending bytes → In bytes x → HasWindow (domains nodes unit bytes) x
domains_have nodes unit bytes x h u asc k =
    let lo = first_of bytes in
    let low = lo - lo % unit in
    let c = (last_of bytes + 1 - low + (nodes - 1)) / nodes in
    let s = max 1 (domain_size low (last_of bytes + 1) nodes unit) in
    let grown : c * nodes ≤ s * nodes = mul-le c nodes s nodes (omega arith) (omega arith) in
    let below : (x - low) / s < nodes = div_below (x - low) s nodes (omega arith) (omega (arith, last_most bytes x k, grown, mul-le 1 1 s nodes (omega arith) h, mul_comm s nodes)) in
    grind (arith, common_steps, in_map (λ a. filter (λ y. (y - low) / s == a) bytes) (range_with_len 0 nodes) ((x - low) / s), in_range 0 nodes ((x - low) / s), in_filter (λ y. (y - low) / s == (x - low) / s) bytes x k, equal_true ((x - low) / s) ((x - low) / s), filter_ascends (λ y. (y - low) / s == (x - low) / s) bytes asc)

collective_have : (hints : Hints) (bytes : List ℕ) (x : ℕ) → AreHints hints → IsAscending bytes → In bytes x → HasWindow (collective_windows hints bytes) x
collective_have hints bytes x h asc k =
    let d = domains_have hints.cb_nodes hints.striping_unit bytes x h.0 h.1 asc k in
    grind (arith, common_steps, windows_have hints.cb_buffer, in_flat (λ d. windows hints.cb_buffer d) (not_empty (domains hints.cb_nodes hints.striping_unit bytes)), in_filter, not_empty_has)

-- ---- sieving windows

sieved_have : (fuel buffer : ℕ) (bytes : List ℕ) (x : ℕ) → 1 ≤ buffer → length bytes ≤ fuel → IsAscending bytes → In bytes x → HasWindow (sieved fuel buffer bytes) x
sieved_have fuel buffer [] x h l asc k = absurd k
sieved_have zero buffer (y ∷ ys) x h l asc k = absurd (omega arith)
sieved_have (suc fuel) buffer (y ∷ ys) x h l asc k = elim (leb_tells (y + buffer) x) [
  | inr e ↦ grind (arith, nat_tests, in_filter (λ z. nat_lt z (y + buffer)) (y ∷ ys) x k, filter_ascends (λ z. nat_lt z (y + buffer)) (y ∷ ys) asc)
  | inl e ↦
      (let w : HasWindow (sieved fuel buffer (filter (λ z. nat_le (y + buffer) z) ys)) x = grind (arith, nat_tests, sieved_have fuel buffer (filter (λ z. nat_le (y + buffer) z) ys) x h, filter_at_most, filter_ascends, in_filter) in
      record { window = w.window; is_one = inr w.is_one; has = w.has; ascends = w.ascends })
]

sieved_only : (fuel buffer : ℕ) (bytes w : List ℕ) (x : ℕ) → In (sieved fuel buffer bytes) w → In w x → In bytes x
sieved_only (suc fuel) buffer (y ∷ ys) w x xs k = grind (arith, nat_tests, filter_in, sieved_only fuel buffer (filter (λ z. nat_le (y + buffer) z) ys) w x)
sieved_only fuel buffer bytes w x h k = absurd h

-- ---- the step, hull by hull

hulls_in : (ws : List (List ℕ)) (n : ℕ) → 1 ≤ n → ((w : List ℕ) (x : ℕ) → In ws w → In w x → x < n) → IsInOne (hulls ws) n
hulls_in [] n l h = tt
hulls_in (w ∷ ws) n l h = (grind (arith, nat_tests), last_below w n l (λ x k. h w x (inl refl) k), hulls_in ws n l (λ v x g k. h v x (inr g) k))

said_covered : (header : Header) (puts : Puts) (x v : ℕ) → Says (said_by_puts header puts) x v → In (covered header puts) x
said_covered header [] x v h = absurd h
said_covered header (p ∷ puts) x v h = grind (arith, nat_tests, said_covered header puts x v, says_cases, in_left, zip_at, at_in, in_right)

hulls_done : (s : Setting) (puts : Puts) (file : List ℕ) (cells : List Cell) (ws : List (List ℕ)) → 1 ≤ length file
    → IsWithin (cells_of_puts s.header puts) (length file) → IsWithin cells (length file)
    → ((x : ℕ) → said_at (said_by cells) x ≡ said_at (said_by_puts s.header puts) x)
    → ((x : ℕ) → In (covered s.header puts) x → x < length file)
    → ((w : List ℕ) (x : ℕ) → In ws w → In w x → In (covered s.header puts) x)
    → ((x : ℕ) → In (covered s.header puts) x → HasWindow ws x)
    → written_over file cells ws ≡ fold (put_post s) file puts
hulls_done s puts file cells ws one room fits same below only each =
    let hull : (x v : ℕ) → said_at (said_by cells) x ≡ Some v → HasEach (hulls ws) x = λ x v e.
    let h = each x (said_covered s.header puts x v (said_is (said_by_puts s.header puts) x v (sym (same x) ∙ e))) in has_hull ws h.window x h.is_one h.has h.ascends in
    grind (arith, nat_tests, windows_done file cells (hulls ws) fits (hulls_in ws (length file) one (λ w x h k. below x (only w x h k))) hull, same_said, puts_say, puts_are_cells)

pub collective_done : (hints : Hints) (s : Setting) (puts : Puts) (file : List ℕ) (cells : List Cell) → AreHints hints → 1 ≤ length file
    → IsWithin (cells_of_puts s.header puts) (length file) → IsWithin cells (length file)
    → ((x : ℕ) → said_at (said_by cells) x ≡ said_at (said_by_puts s.header puts) x)
    → ((x : ℕ) → In (covered s.header puts) x → x < length file)
    → written_over file cells (collective_windows hints (in_order (covered s.header puts))) ≡ fold (put_post s) file puts
collective_done hints s puts file cells h one room fits same below =
    grind (arith, nat_tests, hulls_done, in_order_in, flat_in, filter_in, map_in, not, collective_have, in_order_ascends, in_in_order)

pub sieving_done : (buffer : ℕ) (s : Setting) (puts : Puts) (file : List ℕ) (cells : List Cell) → 1 ≤ buffer → 1 ≤ length file
    → IsWithin (cells_of_puts s.header puts) (length file) → IsWithin cells (length file)
    → ((x : ℕ) → said_at (said_by cells) x ≡ said_at (said_by_puts s.header puts) x)
    → ((x : ℕ) → In (covered s.header puts) x → x < length file)
    → written_over file cells (sieving_windows buffer (in_order (covered s.header puts))) ≡ fold (put_post s) file puts
sieving_done buffer s puts file cells h one room fits same below =
    grind (arith, nat_tests, in_order_ascends (covered s.header puts), hulls_done, in_order_in, sieved_only, sieved_have, in_in_order)
