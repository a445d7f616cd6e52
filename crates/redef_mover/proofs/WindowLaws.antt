-- The windows of a slab from its top.
use Rattle.redef_mover.proofs.Words.{◌≡◌, ℕ, ◌+◌, ◌-◌, ◌*◌, ◌<◌, ◌≤◌, ◌∙◌, ap, List, ◌++◌, length, take, drop, Option, arith, flat_map, IfSome, range_with_len, flat_map-append, append-nil, range_append, DiskCall, Slab, move_window, read, written, after, slab_calls, slab_moved, window, window_calls, read_slice, windows_of, count_is, nat_tests}
use Rattle.redef_mover.proofs.SlabLaws.{both_moved}

-- ---- a read

-- a window that is written as it was read
pub window_told : (held mid now : Option (List ℕ)) (bytes : List ℕ) (w : Slab) (m begin again size : ℕ) → IfSome held (λ b. length b ≡ size) → w.from + w.len ≤ size
    → m ≡ w.len → begin ≡ 0 → again ≡ begin → IfSome held (λ file. bytes ≡ take m (drop (w.from - begin) file)) → mid ≡ held
    → now ≡ after (λ file. written file (w.to - again) bytes) mid → now ≡ after (λ file. slab_moved file w) held
window_told held mid now bytes w m begin again size long room e b a read f k = grind (arith, nat_tests, read_slice)

-- ---- the windows so far

-- the part of a slab that the first j windows from the top hold
abbrev pub upper : ℕ → Slab → ℕ → Slab
upper z s j =
    let rest = s.len - j * z in
    record { from = s.from + rest; to = s.to + rest; len = s.len - rest }

pub window_moved : (z j : ℕ) (s : Slab) (file : List ℕ) → s.from ≤ s.to → j * z < s.len → s.to + s.len ≤ length file
    → slab_moved (slab_moved file (upper z s j)) (window z s j) ≡ slab_moved file (upper z s (j + 1))
window_moved z j s file up l h = grind (arith, nat_tests, both_moved file (window z s j) (upper z s j) (upper z s (j + 1)))

pub whole_moved : (z j : ℕ) (s : Slab) (file : List ℕ) → s.len ≤ j * z → slab_moved file (upper z s j) ≡ slab_moved file s
whole_moved z j s file h = grind (arith, nat_tests)

-- ---- the calls so far

abbrev pub calls_before : ℕ → Slab → ℕ → List DiskCall
calls_before z s j = flat_map (move_window z s) (range_with_len 0 j)

pub window_called : (z j : ℕ) (s : Slab) → calls_before z s j ++ window_calls (window z s j) ≡ calls_before z s (j + 1)
window_called z j s =
    grind (arith, nat_tests, append-nil (move_window z s j), flat_map-append (move_window z s) (range_with_len 0 j) (range_with_len (0 + j) 1), range_append 0 j 1)

pub all_called : (z j count : ℕ) (s : Slab) → 0 < z → j ≡ count → count ≡ windows_of z s.len → calls_before z s j ≡ slab_calls z s
all_called z j count s h e k = ap (λ (i : ℕ). calls_before z s i) (e ∙ k ∙ count_is z s.len h)
