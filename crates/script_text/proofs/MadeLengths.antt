-- How long the text of a made script is, and that words can express it.
use Rattle.script_text.proofs.Words.{◌≡◌, ℕ, zero, suc, ◌+◌, ◌-◌, ◌*◌, ◌^◌, ◌≤◌, ◌<◌, List, [], ◌∷◌, ◌++◌, map, length, Bool, true, not, nat_lt, refl, subst, arith, codes, decimal, signed_decimal, enumerate_from, flat_map, list_all, range_with_len, lt-ltb, length-decimal-le_wide, flat_map-append, pieces_long, Call, Every, Given, Bput, Bits, Numbers, is_empty, first_row, precip_at, temp_at, call_word, hex, line, call_words, region_words, shown_call, shown_values, is_expressible_call, calls_of_rank, calls_of_record, columns_of, precip_band, region_of_band, temp_band, rank_is, record_is, pieces_pass, range_passes, nat_tests, common_steps}
use Rattle.script_text.proofs.Numerals.{length-hex}
use Rattle.std.specs.Prelude.{ℤ, unsigned_abs}
use Rattle.script_text.proofs.LineLengths.{Between, both_long, line_long, number_long, sizes_long, small_long, words_between, words_joined, words_size}
use Rattle.nc_base.specs.declared.request.Call.TheVariants as call

-- ---- the values of a rank's rows

-- from 22 to 23 rows of 360 values
abbrev FitsBand : ℕ → Type 0
FitsBand n = (7920 ≤ n) × (n ≤ 8280)

rows_long : (r n : ℕ) → r < 8 → n ≡ (first_row (r + 1) - first_row r) * 360 → FitsBand n
rows_long r n h e = (omega (arith, e), omega (arith, e))

temps_long : (seed r t : ℕ) → r < 8 → FitsBand (length (temp_band seed r t))
unfolding temp_band
temps_long seed r t h = grind (arith, nat_tests, rows_long r, pieces_long)

precips_long : (seed r t : ℕ) → r < 8 → FitsBand (length (precip_band seed r t))
unfolding precip_band
precips_long seed r t h = grind (arith, nat_tests, rows_long r, pieces_long)

temps_fit : (seed r t : ℕ) → list_all (λ n. nat_lt n (2 ^ 64)) (temp_band seed r t) ≡ true
unfolding temp_band
temps_fit seed r t =
    pieces_pass (λ n. nat_lt n (2 ^ 64)) (λ y. map (λ x. temp_at seed t y x) (range_with_len 0 360)) (first_row r) (first_row (r + 1) - first_row r)
    (λ y b. range_passes (λ n. nat_lt n (2 ^ 64)) (λ x. temp_at seed t y x) 0 360 (λ x c. lt-ltb (temp_at seed t y x) (2 ^ 64) (omega arith)))

abbrev is_depth : ℤ → Bool
is_depth z = nat_lt (unsigned_abs z) (10 ^ 5)

depths_fit : (seed r t : ℕ) → list_all is_depth (precip_band seed r t) ≡ true
unfolding precip_band
depths_fit seed r t =
    pieces_pass is_depth (λ y. map (λ x. precip_at seed t y x) (range_with_len 0 360)) (first_row r) (first_row (r + 1) - first_row r)
    (λ y b. range_passes is_depth (λ x. precip_at seed t y x) 0 360 (λ x c. grind (arith, nat_tests)))

-- ---- words can express the calls

some_values : {A : Type 0} (xs : List A) → 1 ≤ length xs → not (is_empty xs) ≡ true
some_values xs h = grind (arith, nat_tests)

abbrev temp_post : ℕ → ℕ → ℕ → Call
temp_post seed r t = call.Post (2 * t) Bput (codes "temp") (region_of_band r t) (Bits (temp_band seed r t))

abbrev precip_post : ℕ → ℕ → ℕ → Call
precip_post seed r t = call.Post (2 * t + 1) Bput (codes "precip") (region_of_band r t) (Numbers (precip_band seed r t))

abbrev column_get : List ℕ → ℕ → ℕ → Call
column_get name size r = call.Get true name (columns_of size r)

abbrev records_of : ℕ → ℕ → ℕ → ℕ → List Call
records_of seed r t n = flat_map (λ k. calls_of_record seed r k) (range_with_len t n)

pub rank_expressible : (seed size r : ℕ) → size ≤ 64 → r < 8 → list_all is_expressible_call (calls_of_rank seed size r) ≡ true
rank_expressible seed size r s h =
    let reads = column_get (codes "temp") size r ∷ column_get (codes "precip") size r ∷ call.Detach ∷ [] in
    grind (arith, common_steps, rank_is seed size r (column_get (codes "temp") size r) (column_get (codes "precip") size r), pieces_pass is_expressible_call (λ k. calls_of_record seed r k) 0 size, temps_long, some_values, temps_fit, record_is, list_all, is_expressible_call, calls_of_record, temp_post, precip_post)

-- ---- how long their lines are

abbrev region_size : Given → ℕ
region_size g = words_size (region_words g)

band_region : (r t : ℕ) → r < 8 → t < 64 → region_size (region_of_band r t) ≤ 28
unfolding region_of_band
band_region r t h l = grind (arith, nat_tests, sizes_long, region_size, region_of_band)

temp_words : (seed r t : ℕ) → r < 8 → Between 142560 149040 (words_size (shown_values (Bits (temp_band seed r t))))
temp_words seed r t h =
    grind (arith, common_steps, temps_long seed r t h, nat_lt, length-hex 16, words_between (λ n. 120 ∷ hex 16 n) (λ n. nat_lt n (2 ^ 64)) 17 17, temps_fit seed r t)

precip_words : (seed r t : ℕ) → r < 8 → Between 15840 57960 (words_size (shown_values (Numbers (precip_band seed r t))))
precip_words seed r t h = grind (arith, nat_tests, precips_long seed r t h, words_between signed_decimal is_depth 1 6, number_long, depths_fit seed r t)

-- a post's line: what comes before its values, and these
post_line : (r id low high : ℕ) (name : List ℕ) (g : Given) (vs : List (List ℕ)) → r < 8 → id < 10 ^ 3 → length name ≤ 6 → region_size g ≤ 28 → Between low high (words_size vs)
    → Between low (high + 60) (length (line (decimal r ∷ codes "bput_vara" ∷ decimal id ∷ name ∷ (region_words g ++ vs))))
post_line r id low high name g vs h small short region values =
    grind (
      arith,
      nat_tests,
      line_long (decimal r) (codes "bput_vara" ∷ decimal id ∷ name ∷ (region_words g ++ vs)),
      small_long r,
      words_joined (region_words g) vs,
      small_long id small,
    )

temp_line : (seed r t : ℕ) → r < 8 → t < 64 → Between 142560 149100 (length (shown_call r (temp_post seed r t)))
unfolding region_of_band
temp_line seed r t h l = post_line r (2 * t) 142560 149040 (codes "temp") (region_of_band r t) (shown_values (Bits (temp_band seed r t))) h (omega arith) (omega arith) (band_region r t h l) (temp_words seed r t h)

precip_line : (seed r t : ℕ) → r < 8 → t < 64 → Between 15840 58020 (length (shown_call r (precip_post seed r t)))
unfolding region_of_band
precip_line seed r t h l = post_line r (2 * t + 1) 15840 57960 (codes "precip") (region_of_band r t) (shown_values (Numbers (precip_band seed r t))) h (omega arith) (omega arith) (band_region r t h l) (precip_words seed r t h)

-- a line of few words
few_words : (r : ℕ) (c : Call) → r < 8 → words_size (call_word c ∷ call_words c) ≤ 60 → Between 0 64 (length (shown_call r c))
few_words r c h few = grind (arith, nat_tests, small_long r, line_long (decimal r) (call_word c ∷ call_words c), call_words c)

abbrev shown_calls : ℕ → List Call → List ℕ
shown_calls r cs = flat_map (shown_call r) cs

record_long : (seed r t : ℕ) → r < 8 → t < 64 → Between 158400 207200 (length (shown_calls r (calls_of_record seed r t)))
record_long seed r t h l =
    let precip = shown_call r (precip_post seed r t) in
    let wait = shown_call r (call.Wait true Every) in
    let three = both_long 0 64 0 64 0 0 wait [] (few_words r (call.Wait true Every) h (omega arith)) (record { least = omega arith; most = omega arith }) (omega arith) (omega arith) in
    let two = both_long 15840 58084 _ _ _ _ precip (wait ++ []) (precip_line seed r t h l) three (omega arith) (omega arith) in
    subst (λ (cs : List Call). Between 158400 207200 (length (shown_calls r cs))) (record_is seed r t (temp_post seed r t) (precip_post seed r t) refl refl)
    (both_long _ _ _ _ _ _ (shown_call r (temp_post seed r t)) (precip ++ (wait ++ [])) (temp_line seed r t h l) two (omega arith) (omega arith))

-- a call's text after another's
calls_joined : (r low high a b c d : ℕ) (xs ys : List Call) → Between a b (length (shown_calls r xs)) → Between c d (length (shown_calls r ys)) → low ≤ a + c → b + d ≤ high → Between low high (length (shown_calls r (xs ++ ys)))
calls_joined r low high a b c d xs ys one two under over = rw flat_map-append (both_long low high a b c d (shown_calls r xs) (shown_calls r ys) one two under over)

records_long : (seed r t n : ℕ) → r < 8 → t + n ≤ 64 → Between (n * 158400) (n * 207200) (length (shown_calls r (records_of seed r t n)))
records_long seed r t zero h l = record { least = omega arith; most = omega arith }
records_long seed r t (suc n) h l =
    calls_joined r _ _ _ _ _ _ (calls_of_record seed r t) (records_of seed r (t + 1) n) (record_long seed r t h (omega arith)) (records_long seed r (t + 1) n h (omega arith)) (omega arith) (omega arith)

get_line : (size r : ℕ) (name : List ℕ) → size ≤ 64 → r < 8 → length name ≤ 6 → Between 0 64 (length (shown_call r (column_get name size r)))
unfolding columns_of
get_line size r name s h short = grind (arith, nat_tests, sizes_long, region_size, columns_of, few_words r (column_get name size r) h)

attach_line : (r : ℕ) → r < 8 → Between 0 64 (length (shown_call r (call.Attach 65536)))
attach_line r h =
    let word : length (call_word (call.Attach 65536)) ≡ 13 = refl in
    let size = length-decimal-le_wide 5 65536 (omega arith) (omega arith) (omega arith) in
    few_words r (call.Attach 65536) h (omega (arith, word, size))

detach_line : (r : ℕ) → r < 8 → Between 0 64 (length (shown_call r call.Detach))
detach_line r h = let word : length (call_word call.Detach) ≡ 13 = refl in few_words r call.Detach h (omega (arith, word))

rank_text : (seed size r : ℕ) → size ≤ 64 → r < 8 → Between (size * 158400) (size * 207200 + 256) (length (shown_calls r (calls_of_rank seed size r)))
rank_text seed size r s h =
    let temps = column_get (codes "temp") size r in
    let precips = column_get (codes "precip") size r in
    let reads = temps ∷ precips ∷ call.Detach ∷ [] in
    let get = λ (name : List ℕ) (short : length name ≤ 6). get_line size r name s h short in
    let none : Between 0 0 (length (shown_calls r [])) = record { least = omega arith; most = omega arith } in
    let last = both_long 0 64 _ _ _ _ (shown_call r call.Detach) [] (detach_line r h) none (omega arith) (omega arith) in
    let two = both_long 0 128 _ _ _ _ (shown_call r precips) (shown_calls r (call.Detach ∷ [])) (get (codes "precip") (omega arith)) last (omega arith) (omega arith) in
    let three = both_long 0 192 _ _ _ _ (shown_call r temps) (shown_calls r (precips ∷ call.Detach ∷ [])) (get (codes "temp") (omega arith)) two (omega arith) (omega arith) in
    let rest = calls_joined r (size * 158400) (size * 207200 + 192) _ _ _ _ (records_of seed r 0 size) reads (records_long seed r 0 size h (omega arith)) three (omega arith) (omega arith) in
    grind (arith, common_steps, rank_is seed size r temps precips, both_long, attach_line r h)

-- ---- the calls of all ranks

abbrev pub ranks_text : List (ℕ × List Call) → List ℕ
ranks_text ranks = flat_map (λ p. flat_map (shown_call p.0) p.1) ranks

pub ranks_long : (seed size a n : ℕ) → size ≤ 64 → a + n ≤ 8 → Between (n * (size * 158400)) (n * (size * 207200 + 256)) (length (ranks_text (enumerate_from a (map (λ r. calls_of_rank seed size r) (range_with_len a n)))))
ranks_long seed size a zero s h = record { least = omega arith; most = omega arith }
ranks_long seed size a (suc n) s h = grind (arith, common_steps, both_long, rank_text seed size a s, ranks_long seed size (a + 1) n s)
