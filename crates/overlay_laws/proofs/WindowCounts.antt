-- How many windows a length has, and their stores.
use Rattle.overlay_laws.proofs.Words.{◌≡◌, ℕ, ◌+◌, ◌-◌, ◌*◌, ◌/◌, ◌%◌, ◌<◌, ◌≤◌, min, List, [], ◌∷◌, ◌++◌, length, arith, range_with_len, mul-le-mul_right, div_ceil_times, map-append, div-add-mod', div-mul-add, mod_below, range_append, DiskCall, Store, window_count, nat_tests, map}

-- the count that the code takes
abbrev pub windows_of : ℕ → ℕ → ℕ
windows_of z len = len / z + min 1 (len % z)

pub count_is : (z len : ℕ) → 0 < z → windows_of z len ≡ window_count z len
count_is z len h = grind (arith, nat_tests, div-mul-add, mod_below len z h, div-add-mod' len z)

pub window_inside : (z len j count : ℕ) → 0 < z → count ≡ windows_of z len → j < count → j * z < len
window_inside z len j count h e l = grind (arith, nat_tests, div_ceil_times, mul-le-mul_right)

pub windows_reach : (z len count : ℕ) → 0 < z → count ≡ windows_of z len → len ≤ count * z
windows_reach z len count h e = grind (arith, nat_tests, div_ceil_times)

-- the stores so far
abbrev pub stores_before : ℕ → ℕ → ℕ → ℕ → List DiskCall
stores_before z x len j = map (λ i. Store (x + i * z) (min z (len - i * z))) (range_with_len 0 j)

pub stores_more : (z x len j place n : ℕ) (bytes : List ℕ) → place ≡ x + j * z → n ≡ min z (len - j * z) → length bytes ≡ n
    → stores_before z x len j ++ Store place (length bytes) ∷ [] ≡ stores_before z x len (j + 1)
stores_more z x len j place n bytes e k long = grind (arith, nat_tests, map-append, range_append)
