-- Calls one after another: those so far, and those that are left.
use Rattle.opening_plan.proofs.Words.{◌≡◌, ℕ, ◌+◌, ◌-◌, ◌*◌, ◌≤◌, min, ◌∙◌, ap, subst, List, [], ◌∷◌, ◌++◌, map, append_assoc, arith, range_with_len, flat_map-append, append-nil, map-append, range_append, DiskCall, Store, Slab, stores, stores_before, Shift, all_calls, further, gap_calls, slab_of, AreSpaced, called_append, nat_tests}

-- ---- so far

pub calls_more : (begun old new before more all : List DiskCall) → before ++ more ≡ all → old ≡ begun ++ before → new ≡ old ++ more → new ≡ begun ++ all
calls_more begun old new before more all s o n = grind (n, o, s, append_assoc begun before more, arith)

pub one_stored : (z x len j : ℕ) → stores_before z x len j ++ Store (x + j * z) (min z (len - j * z)) ∷ [] ≡ stores_before z x len (j + 1)
one_stored z x len j = grind (arith, nat_tests, map-append (λ i. Store (x + i * z) (min z (len - i * z))) (range_with_len 0 j) (range_with_len (0 + j) 1), range_append 0 j 1)

-- ---- left

left_over : (whole mid now part rest all : List DiskCall) → all ≡ part ++ rest → mid ++ all ≡ whole → now ≡ mid ++ part → now ++ rest ≡ whole
left_over whole mid now part rest all e w n = grind (arith, nat_tests, append_assoc mid part rest)

pub none_left : (whole now rest : List DiskCall) → rest ≡ [] → now ++ rest ≡ whole → now ≡ whole
none_left whole now rest e w = grind (arith, nat_tests, append-nil now)

pub last_left : (whole mid now part all : List DiskCall) → all ≡ part → mid ++ all ≡ whole → now ≡ mid ++ part → now ≡ whole
last_left whole mid now part all e w n = grind (arith, nat_tests)

pub moves_left : (whole mid now : List DiskCall) (z : ℕ) (part rest all : List Slab) → all ≡ part ++ rest → mid ++ all_calls z all ≡ whole → now ≡ mid ++ all_calls z part
    → now ++ all_calls z rest ≡ whole
moves_left whole mid now z part rest all e w n = grind (arith, nat_tests, left_over whole mid now (all_calls z part) (all_calls z rest) (all_calls z all), called_append z part rest, all_calls)

pub zeros_left : (whole mid now : List DiskCall) (z : ℕ) (part rest all : List (ℕ × ℕ)) → all ≡ part ++ rest → mid ++ gap_calls z all ≡ whole → now ≡ mid ++ gap_calls z part
    → now ++ gap_calls z rest ≡ whole
zeros_left whole mid now z part rest all e w n =
    left_over whole mid now (gap_calls z part) (gap_calls z rest) (gap_calls z all)
    (ap (λ gs. gap_calls z gs) e ∙ flat_map-append (λ (g : ℕ × ℕ). stores z g.0 g.1) part rest) w n

pub one_zeros_left : (whole mid now : List DiskCall) (z : ℕ) (g : ℕ × ℕ) (rest all : List (ℕ × ℕ)) → all ≡ g ∷ rest → mid ++ gap_calls z all ≡ whole
    → now ≡ mid ++ stores z g.0 g.1 → now ++ gap_calls z rest ≡ whole
one_zeros_left whole mid now z g rest all e w n = grind (arith, nat_tests, left_over whole mid now (stores z g.0 g.1) (gap_calls z rest) (gap_calls z all))

-- ---- slabs of the code

-- so many bytes further than in record 0
abbrev pub slabs_further : ℕ → ℕ → List Shift → List Slab
slabs_further a b ss = map (further a b) (map slab_of ss)

-- ---- slabs one behind another

pub spaced_first : (at end : ℕ) (s : Slab) (others ss : List Slab) → ss ≡ s ∷ others → AreSpaced at end ss → (at ≤ s.to) × AreSpaced (s.to + s.len) end others
spaced_first at end s others ss e h = subst (λ (xs : List Slab). AreSpaced at end xs) e h

pub spaced_wider : (at end wide : ℕ) (ss : List Slab) → end ≤ wide → AreSpaced at end ss → AreSpaced at wide ss
spaced_wider at end wide [] l h = let low : at ≤ end = h in omega arith
spaced_wider at end wide (s ∷ ss) l h = (h.0, spaced_wider (s.to + s.len) end wide ss l h.1)
