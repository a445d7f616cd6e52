-- The windows of all domains, told by their hulls, are those of the device calls.
use Rattle.nc_classic_c.proofs.Words.{◌≡◌, ℕ, ◌+◌, ◌≤◌, List, [], ◌∷◌, map, refl, ap₂, flat_map, enumerate_from, map-append, map-map, Hints, collective_windows, domains, not_empty, windows, told_of, division_of, numbered_windows, step_windows, told, arith, nat_tests}

told_each : (buffer k : ℕ) (ds : List (List ℕ)) → 1 ≤ buffer
    → map told (flat_map (numbered_windows buffer) (enumerate_from k ds)) ≡ map told_of (flat_map (λ d. windows buffer d) (not_empty ds))
told_each buffer k [] h = refl
told_each buffer k ([] ∷ ds) h = grind (arith, nat_tests, told_each buffer (k + 1) ds h)
told_each buffer k ((x ∷ d) ∷ ds) h = grind (arith, nat_tests, told_each buffer (k + 1) ds h, map-append, ap₂, map-map)

pub told_windows : (hints : Hints) (bytes : List ℕ) → 1 ≤ hints.cb_buffer
    → map told (step_windows (division_of hints.cb_nodes hints.striping_unit hints.cb_buffer) bytes) ≡ map told_of (collective_windows hints bytes)
told_windows hints bytes h = told_each hints.cb_buffer 0 (domains hints.cb_nodes hints.striping_unit bytes) h
