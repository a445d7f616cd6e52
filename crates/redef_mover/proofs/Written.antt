-- The begins that are written, and the numbers of those that are found.
use Rattle.redef_mover.proofs.Words.{◌≡◌, ℕ, zero, suc, ◌+◌, ◌-◌, ◌<◌, ◌≤◌, List, [], ◌∷◌, ◌++◌, length, take, get_or, map, Bool, true, false, cond, refl, ap, ◌∙◌, arith, filter, sum_by, nat_lt, nat_le, not, ◌==◌, unwrap_or, enumerate_from, nat_tests, take_more, take_all, map-append, sum_by-cons, sum_by-append, Header, Var, header_len, is_record, least, Numbered, fixed_of, records_in, old_of, new_of, begins_before, by_begin, fixed_begins, fixed_order, record_begins, front_after, first_record, begins_by_number, begin_of_number, capped, Place, pairs, capped_pairs, HasOneEach, ◌&&◌, set}
use Rattle.redef_laws.proofs.Orders.{sorted_sum}
use Rattle.redef_mover.proofs.Places.{Placing, fixed_placing, new_placing, old_placing}
use Rattle.redef_mover.proofs.Ranges.{times}

-- ---- the last begin of a number wins

abbrev last_begin : List (ℕ × ℕ) → ℕ → ℕ → ℕ
last_begin [] k begin = begin
last_begin (b ∷ found) k begin = last_begin found k (cond (b.0 == k) b.1 begin)

abbrev pub with_last : ℕ → List (ℕ × ℕ) → List Var → List Var
with_last n found [] = []
with_last n found (v ∷ vars) = record v { begin = last_begin found n v.begin } ∷ with_last (n + 1) found vars

last_push : (found : List (ℕ × ℕ)) (b : ℕ × ℕ) (k begin : ℕ) → last_begin (found ++ b ∷ []) k begin ≡ cond (b.0 == k) b.1 (last_begin found k begin)
last_push [] b k begin = refl
last_push (c ∷ found) b k begin = last_push found b k (cond (c.0 == k) c.1 begin)

last_other : (found : List (ℕ × ℕ)) (b : ℕ × ℕ) (k begin : ℕ) → (b.0 == k) ≡ false → last_begin (found ++ b ∷ []) k begin ≡ last_begin found k begin
last_other found b k begin e = last_push found b k begin ∙ ap (λ (t : Bool). cond t b.1 (last_begin found k begin)) e

later_same : (n : ℕ) (found : List (ℕ × ℕ)) (b : ℕ × ℕ) (vars : List Var) → b.0 < n → with_last n (found ++ b ∷ []) vars ≡ with_last n found vars
later_same n found b [] h = refl
later_same n found b (v ∷ vars) h = grind (arith, nat_tests, later_same (n + 1) found b vars (omega arith), last_other)

set_last : (n : ℕ) (found : List (ℕ × ℕ)) (j begin : ℕ) (d : Var) (vars : List Var) → j < length vars
    → set (with_last n found vars) j (record (get_or (with_last n found vars) j d) { begin = begin }) ≡ with_last n (found ++ (n + j, begin) ∷ []) vars
set_last n found j begin d [] h = absurd (omega arith)
set_last n found zero begin d (v ∷ vars) h =
    grind (arith, nat_tests, last_push found (n + 0, begin) n v.begin, later_same (n + 1) found (n + 0, begin) vars (omega arith))
set_last n found (suc j) begin d (v ∷ vars) h = grind (arith, nat_tests, set_last (n + 1) found j begin d vars (omega arith), set, last_other)

pub last_none : (n : ℕ) (vars : List Var) → vars ≡ with_last n [] vars
last_none n [] = refl
last_none n (v ∷ vars) = ap (λ ws. v ∷ ws) (last_none (n + 1) vars)

-- ---- of each number once

times_cons : (k : ℕ) (b : ℕ × ℕ) (found : List (ℕ × ℕ)) → times k (b ∷ found) ≡ cond (b.0 == k) 1 0 + times k found
times_cons k b found = sum_by-cons (λ (x : ℕ × ℕ). cond (x.0 == k) 1 0) b found

not_there : (found : List (ℕ × ℕ)) (k begin : ℕ) → times k found ≡ 0 → last_begin found k begin ≡ begin
not_there [] k begin h = refl
not_there (b ∷ found) k begin h = grind (arith, nat_tests, times_cons k b found, not_there found k begin)

once : (found : List (ℕ × ℕ)) (k begin : ℕ) → times k found ≡ 1 → last_begin found k begin ≡ begin_of_number found k
once [] k begin h = absurd (omega arith)
once (b ∷ found) k begin h = grind (arith, nat_tests, times_cons k b found, not_there found k b.1, once found k begin)

each_once : (n count : ℕ) (found : List (ℕ × ℕ)) (vars : List Var) → HasOneEach count found → n + length vars ≤ count
    → with_last n found vars ≡ map (λ (v : Numbered). record v.1 { begin = begin_of_number found v.0 }) (enumerate_from n vars)
each_once n count found [] h l = refl
each_once n count found (v ∷ vars) h l =
    let inside : nat_lt n count ≡ true = grind (arith, nat_tests) in
    grind (arith, nat_tests, once, each_once (n + 1) count found vars h, with_last)

-- ---- place after place

pub written_next : (vars now after : List Var) (places : List Place) (i : ℕ) (p : Place) (v : Var) → i < length places → p ≡ get_or places i p → p.number < length vars
    → v ≡ get_or now p.number v → after ≡ set now p.number (record v { begin = p.begin })
    → now ≡ with_last 0 (pairs (take i places)) vars → after ≡ with_last 0 (pairs (take (i + 1) places)) vars
written_next vars now after places i p v h there inside here set_there so_far =
    grind (arith, nat_tests, set_last 0 (pairs (take i places)) p.number p.begin v vars inside, take_more places i p h, set, map-append)

pub written_whole : (vars now : List Var) (places : List Place) (i : ℕ) → length places ≤ i → HasOneEach (length vars) (pairs places) → now ≡ with_last 0 (pairs (take i places)) vars
    → now ≡ map (λ (v : Numbered). record v.1 { begin = begin_of_number (pairs places) v.0 }) (enumerate_from 0 vars)
written_whole vars now places i past one so_far = grind (arith, nat_tests, take_all i places past, each_once 0 (length vars) (pairs places) vars one (omega arith))

-- ---- the numbers of the begins that are found

numbered : ℕ → List Numbered → ℕ
numbered k vars = sum_by (λ v. cond (v.0 == k) 1 0) vars

numbered_none : (k : ℕ) → numbered k [] ≡ 0
unfolding numbered
numbered_none k = refl

numbered_cons : (k : ℕ) (v : Numbered) (vars : List Numbered) → numbered k (v ∷ vars) ≡ cond (v.0 == k) 1 0 + numbered k vars
unfolding numbered
numbered_cons k v vars = sum_by-cons (λ (x : Numbered). cond (x.0 == k) 1 0) v vars

numbered_append : (k : ℕ) (vars more : List Numbered) → numbered k (vars ++ more) ≡ numbered k vars + numbered k more
unfolding numbered
numbered_append k vars more = sum_by-append (λ (x : Numbered). cond (x.0 == k) 1 0) vars more

times_append : (k : ℕ) (found more : List (ℕ × ℕ)) → times k (found ++ more) ≡ times k found + times k more
times_append k found more = sum_by-append (λ (x : ℕ × ℕ). cond (x.0 == k) 1 0) found more

times_placed : (k : ℕ) (c : Placing) (m : ℕ) (vars : List Numbered) → times k (c.begins m vars) ≡ numbered k vars
unfolding numbered
times_placed k c m [] = ap (times k) (c.none m)
times_placed k c m (v ∷ vars) =
    grind (arith, nat_tests, times_cons k (v.0, c.begin m v) (c.begins (c.step m v) vars), times_placed k c (c.step m v) vars, numbered_cons k v vars)

times_capped : (k : ℕ) (found : List (ℕ × ℕ)) → times k (capped_pairs found) ≡ times k found
times_capped k [] = refl
times_capped k (b ∷ found) = grind (arith, nat_tests, times_capped k found, times_cons k (b.0, capped b.1) (capped_pairs found), times_cons k b found)

numbered_sorted : (k : ℕ) (vars : List Numbered) → numbered k (by_begin vars) ≡ numbered k vars
unfolding numbered
numbered_sorted k vars = sorted_sum begins_before (λ (v : Numbered). cond (v.0 == k) 1 0) vars

-- two tests of which each item passes one
numbered_parts : (k : ℕ) (p q : Numbered → Bool) → ((v : Numbered) → q v ≡ not (p v)) → (vars : List Numbered) → numbered k (filter p vars) + numbered k (filter q vars) ≡ numbered k vars
numbered_parts k p q other [] = omega (arith, numbered_none k)
numbered_parts k p q other (v ∷ vars) = grind (arith, nat_tests, numbered_parts k p q other vars, numbered, numbered_cons)

numbered_all : (k n : ℕ) (vars : List Var) → numbered k (enumerate_from n vars) ≡ cond (nat_le n k && nat_lt k (n + length vars)) 1 0
numbered_all k n [] = grind (arith, nat_tests, numbered k [], numbered_none k)
numbered_all k n (v ∷ vars) = grind (arith, nat_tests, numbered_all k (n + 1) vars, numbered_cons k (n, v) (enumerate_from (n + 1) vars))

other_side : (m n : ℕ) → nat_le n m ≡ not (nat_lt m n)
other_side m n = grind (arith, nat_tests)

sides : (k n : ℕ) (vars : List Numbered) → numbered k (old_of n vars) + numbered k (new_of n vars) ≡ numbered k vars
sides k n vars = numbered_parts k (λ (v : Numbered). nat_lt v.0 n) (λ (v : Numbered). nat_le n v.0) (λ v. other_side v.0 n) vars

-- whatever the records' first begin and the least old one
times_all : (k : ℕ) (header : Header) (n m low at : ℕ)
    → times k (fixed_begins header (header_len header) (fixed_order header n)
    ++ map (λ (v : Numbered). (v.0, m + (v.1.begin - low))) (by_begin (old_of n (records_in header (enumerate_from 0 header.vars))))
    ++ record_begins header at (new_of n (records_in header (enumerate_from 0 header.vars))))
    ≡ numbered k (enumerate_from 0 header.vars)
times_all k header n m low at =
    let all = enumerate_from 0 header.vars in
    let fixed = fixed_of header all in
    let records = records_in header all in
    let a = fixed_begins header (header_len header) (fixed_order header n) in
    let b = map (λ (v : Numbered). (v.0, m + (v.1.begin - low))) (by_begin (old_of n records)) in
    let c = record_begins header at (new_of n records) in
    let in_a : times k a ≡ numbered k (old_of n fixed) + numbered k (new_of n fixed) =
    grind (arith, nat_tests, times_placed k (fixed_placing header) (header_len header) (fixed_order header n), numbered_append k (by_begin (old_of n fixed)) (new_of n fixed), numbered k (new_of n fixed), numbered_sorted k (old_of n fixed)) in
    let kinds : numbered k records + numbered k fixed ≡ numbered k all =
    numbered_parts k (λ (v : Numbered). is_record header v.1) (λ (v : Numbered). not (is_record header v.1)) (λ v. refl) all in
    times_append k (a ++ b) c
    ∙ ap (λ (i : ℕ). i + times k c) (times_append k a b ∙ ap (λ (i : ℕ). i + times k b) (in_a ∙ sides k n fixed))
    ∙ ap (λ (i : ℕ). numbered k fixed + i + times k c) (times_placed k (old_placing header m low) m (by_begin (old_of n records)) ∙ numbered_sorted k (old_of n records))
    ∙ ap (λ (i : ℕ). numbered k fixed + numbered k (old_of n records) + i) (times_placed k (new_placing header) at (new_of n records))
    ∙ omega (arith, sides k n records, kinds)

pub each_placed : (header : Header) (n : ℕ) → HasOneEach (length header.vars) (capped_pairs (begins_by_number header n))
each_placed header n k =
    let records = records_in header (enumerate_from 0 header.vars) in
    let low = least (map (λ (v : Numbered). v.1.begin) (old_of n records)) in
    let first = first_record (front_after header (header_len header) (fixed_order header n)) low in
    grind (arith, nat_tests, times_capped k (begins_by_number header n), times_all k header n first (unwrap_or low 0), numbered_all k 0 header.vars)
