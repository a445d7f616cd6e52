-- What the calls of a rank keep.
use Rattle.generated_run.proofs.Words.{◌≡◌, ℕ, zero, suc, ◌+◌, ◌-◌, ◌*◌, ◌<◌, ◌≤◌, List, [], ◌∷◌, ◌++◌, length, map, sum, replicate, true, refl, sym, ap, ◌∙◌, le-leb, arith, flat_map, list_all, range_with_len, append-nil, length-append, list_all-append, length-map-range_with_len, and_from, pieces_long, Call, Every, Bput, Bits, Numbers, are_different, is_lawful_call, is_number, kind_numbers, posted_ids, values_in_call, first_row, is_counted, precip_at, temp_at, sum_cons, calls_of_rank, columns_of, precip_band, region_of_band, temp_band, nat_tests, codes, common_steps}
use Rattle.nc_base.specs.declared.request.Call.TheVariants as call
use Rattle.generated_run.proofs.Ranges.{pieces_pass, range_differs, range_passes}

-- ---- the values of its rows

few_temps : (seed r t : ℕ) → r < 8 → length (temp_band seed r t) ≤ 8280
unfolding temp_band
few_temps seed r t h =
    grind (arith, nat_tests, pieces_long (λ y. map (λ x. temp_at seed t y x) (range_with_len 0 360)) 360 (λ y. length-map-range_with_len (temp_at seed t y) 0 360))

few_precips : (seed r t : ℕ) → r < 8 → length (precip_band seed r t) ≤ 8280
unfolding precip_band
few_precips seed r t h =
    grind (arith, nat_tests, pieces_long (λ y. map (λ x. precip_at seed t y x) (range_with_len 0 360)) 360 (λ y. length-map-range_with_len (precip_at seed t y) 0 360))

small_precips : (seed r t : ℕ) → list_all is_number (precip_band seed r t) ≡ true
unfolding precip_band
small_precips seed r t =
    pieces_pass is_number (λ y. map (λ x. precip_at seed t y x) (range_with_len 0 360)) (first_row r) (first_row (r + 1) - first_row r)
    (λ y b. range_passes is_number (λ x. precip_at seed t y x) 0 360 (λ x c. grind (arith, nat_tests)))

-- ---- its calls

abbrev record_of : ℕ → ℕ → ℕ → List Call
record_of seed r t =
    call.Post (2 * t) Bput (codes "temp") (region_of_band r t) (Bits (temp_band seed r t))
    ∷ call.Post (2 * t + 1) Bput (codes "precip") (region_of_band r t) (Numbers (precip_band seed r t)) ∷ call.Wait true Every ∷ []

-- the calls of n records from t on
abbrev records_of : ℕ → ℕ → ℕ → ℕ → List Call
records_of seed r t n = flat_map (λ k. record_of seed r k) (range_with_len t n)

-- the calls after the records
abbrev reads_of : ℕ → ℕ → List Call
reads_of size r = call.Get true (codes "temp") (columns_of size r) ∷ call.Get true (codes "precip") (columns_of size r) ∷ call.Detach ∷ []

abbrev whole : ℕ → ℕ → ℕ → List Call
whole seed size r = call.Attach 65536 ∷ records_of seed r 0 size ++ reads_of size r

whole_is : (seed size r : ℕ) → whole seed size r ≡ calls_of_rank seed size r
unfolding calls_of_rank region_of_band temp_band precip_band columns_of
whole_is seed size r = refl

-- ---- what they keep

pub rank_lawful : (seed size r : ℕ) → size ≤ 64 → r < 8 → list_all (λ c. is_lawful_call 8 r c) (calls_of_rank seed size r) ≡ true
unfolding region_of_band columns_of
rank_lawful seed size r s h = grind (arith, nat_tests, whole_is seed size r, list_all-append, and_from, pieces_pass, le-leb, few_temps, few_precips, small_precips)

pub rank_counted : (seed size r : ℕ) → list_all is_counted (calls_of_rank seed size r) ≡ true
unfolding region_of_band columns_of
rank_counted seed size r =
    grind (arith, nat_tests, whole_is seed size r, list_all-append is_counted, and_from, pieces_pass is_counted (λ k. record_of seed r k) 0 size (λ k b. refl))

ids_of : (seed r : ℕ) (others : List Call) (t n : ℕ) → posted_ids (records_of seed r t n ++ others) ≡ range_with_len (2 * t) (2 * n) ++ posted_ids others
ids_of seed r others t zero = refl
ids_of seed r others t (suc n) =
    let next : 2 * (t + 1) ≡ 2 * t + 1 + 1 = omega arith in
    let two : suc (suc (2 * n)) ≡ 2 * suc n = omega arith in
    grind (arith, nat_tests, next, two, ids_of seed r others (t + 1) n)

pub rank_ids : (seed size r : ℕ) → are_different (posted_ids (calls_of_rank seed size r)) ≡ true
rank_ids seed size r =
    grind (arith, nat_tests, whole_is seed size r, ids_of seed r (reads_of size r) 0 size, append-nil (range_with_len 0 (2 * size)), range_differs 0 (2 * size))

kinds_of : (seed r : ℕ) (others : List Call) (t n : ℕ) → kind_numbers (records_of seed r t n ++ others) ≡ replicate n 3 ++ kind_numbers others
kinds_of seed r others t zero = refl
kinds_of seed r others t (suc n) = ap (λ (ks : List ℕ). 3 ∷ ks) (kinds_of seed r others (t + 1) n)

pub rank_kinds : (seed size r : ℕ) → kind_numbers (calls_of_rank seed size r) ≡ replicate size 3 ++ 2 ∷ 2 ∷ []
rank_kinds seed size r = sym (ap (λ (calls : List Call). kind_numbers calls) (whole_is seed size r)) ∙ kinds_of seed r (reads_of size r) 0 size

pub rank_long : (seed size r : ℕ) → length (calls_of_rank seed size r) ≡ 3 * size + 4
rank_long seed size r =
    grind (arith, common_steps, whole_is seed size r, length-append (records_of seed r 0 size) (reads_of size r), pieces_long (λ k. record_of seed r k) 3)

values_of : (seed r : ℕ) (others : List Call) (t n : ℕ) → r < 8 → sum (map values_in_call (records_of seed r t n ++ others)) ≤ n * 16560 + sum (map values_in_call others)
values_of seed r others t zero h = omega arith
values_of seed r others t (suc n) h =
    let later : List Call = records_of seed r (t + 1) n ++ others in
    grind (arith, common_steps, sum_cons values_in_call (call.Post (2 * t) Bput (codes "temp") (region_of_band r t) (Bits (temp_band seed r t))), sum_cons values_in_call (call.Post (2 * t + 1) Bput (codes "precip") (region_of_band r t) (Numbers (precip_band seed r t))) ((call.Wait true Every) ∷ later), values_of seed r others (t + 1) n h, few_temps, few_precips)

pub rank_values : (seed size r : ℕ) → size ≤ 64 → r < 8 → sum (map values_in_call (calls_of_rank seed size r)) ≤ 1059840
rank_values seed size r s h = grind (arith, common_steps, whole_is seed size r, values_of)
