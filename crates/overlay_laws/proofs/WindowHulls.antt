-- No window's hull is longer than its buffer.
use Rattle.overlay_laws.proofs.Words.{ℕ, ◌+◌, ◌-◌, ◌/◌, ◌<◌, ◌≤◌, inl, refl, List, [], ◌∷◌, not, arith, mod_below, div-add-mod', filter, map, ◌==◌, range_with_len, first_of, hull_len, last_of, windows, is_empty, In, IsAscending, filter_in, nat_tests}
use Rattle.overlay_laws.proofs.HullLaws.{first_least, last_below, map_in}

hull_short : (w : List ℕ) (n : ℕ) → 1 ≤ n → ((x y : ℕ) → In w x → In w y → x < y + n) → hull_len w ≤ n
hull_short [] n l h = omega arith
hull_short (a ∷ w) n l h = omega (arith, last_below (a ∷ w) (a + n) (omega arith) (λ x k. h x a k (inl refl)))

abbrev window_at : ℕ → List ℕ → ℕ → List ℕ
window_at buffer bytes j = filter (λ x. (x - first_of bytes) / buffer == j) bytes

pub window_short : (buffer : ℕ) (bytes w : List ℕ) → 1 ≤ buffer → IsAscending bytes → In (windows buffer bytes) w → hull_len w ≤ buffer
window_short buffer bytes w l asc h =
    let js = range_with_len 0 ((last_of bytes - first_of bytes) / buffer + 1) in
    let kept = filter_in (λ (w : List ℕ). not (is_empty w)) (map (window_at buffer bytes) js) w h in
    grind (arith, nat_tests, map_in (window_at buffer bytes) js w kept.0, first_of bytes, first_least bytes, filter_in, hull_short (window_at buffer bytes (map_in (window_at buffer bytes) js w kept.0).0) buffer l, div-add-mod', mod_below, window_at)
