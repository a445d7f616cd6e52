-- A half of a meeting for which no batch has a request.
use Rattle.turn_run.proofs.Words.{◌≡◌, ℕ, ◌+◌, ◌≤◌, List, [], ◌∷◌, ◌++◌, length, map, true, Option, Some, None, refl, sym, ap, ◌∙◌, arith, flat_map, nat_lt, enumerate_from, list_all, Batch, Post, Hints, DiskCall, after, with_end, collective_windows, get_bytes, loads, put_calls, store_records, Setting, end_for, get_post, raised, told, needed_now, Puts, no_need, is_empty, after_round, counted, gets_in, puts_in, puts_of_batch, no_calls, none_windows, map_map, IfSome, longer-enough, nat_tests}
use Rattle.turn_run.proofs.MeetFile.{not_below, raised_none}
use Rattle.turn_run.proofs.StageLaws.{some_each}
use Rattle.serial_spec.proofs.MemberLaws.{empty_list}

abbrev have_no_gets : List Batch → Type 0
have_no_gets batches = list_all (λ b. is_empty b.gets) batches ≡ true

no_gets : (batches : List Batch) → have_no_gets batches → gets_in batches ≡ []
no_gets [] h = refl
no_gets (b ∷ bs) h = grind (arith, nat_tests, empty_list b.gets, no_gets bs)

-- rows without a blob are those of no gets
rows_of_none : {X : Type 0} (f : Post → X) (slice batches : List Batch) → slice ≡ batches → have_no_gets slice → map (λ (b : Batch). []) slice ≡ map (λ b. map f b.gets) batches
rows_of_none f slice [] same none = grind (arith, nat_tests)
rows_of_none f slice (b ∷ batches) same none = grind (arith, nat_tests, rows_of_none f batches batches refl, empty_list b.gets)

pub got_of_none : (s : Setting) (slice batches : List Batch) (table : List (List (List ℕ))) → slice ≡ batches → have_no_gets slice → table ≡ map (λ (b : Batch). []) slice
    → (held : Option (List ℕ)) → IfSome held (λ file. table ≡ map (λ b. map (get_post s file) b.gets) batches)
got_of_none s slice batches table same none rows held = some_each held (λ file there. rows ∙ rows_of_none (get_post s file) slice batches same none)

pub lens_of_none : (f : Post → ℕ) (slice batches : List Batch) (table : List (List (List ℕ))) → slice ≡ batches → have_no_gets slice → table ≡ map (λ (b : Batch). []) slice
    → map (λ blobs. map (λ (blob : List ℕ). length blob) blobs) table ≡ map (λ b. map f b.gets) batches
lens_of_none f slice batches table same none rows = grind (arith, nat_tests, map_map, rows_of_none f slice batches same none)

pub calls_of_none : (hints : Hints) (s : Setting) (slice batches : List Batch) (calls : Option (List DiskCall)) → slice ≡ batches → have_no_gets slice
    → calls ≡ with_end calls (flat_map loads (collective_windows hints (get_bytes s (gets_in batches))))
calls_of_none hints s slice batches calls same none = no_calls calls (flat_map loads (collective_windows hints (get_bytes s (gets_in batches))))
    (ap (λ (gets : List Post). flat_map loads (collective_windows hints (get_bytes s gets))) (ap gets_in (sym same) ∙ no_gets slice none) ∙ ap (flat_map loads) (none_windows hints))

-- ---- no puts

abbrev have_no_puts : List Batch → Type 0
have_no_puts batches = list_all (λ b. is_empty b.puts) batches ≡ true

no_puts : (n : ℕ) (batches : List Batch) → have_no_puts batches → flat_map puts_of_batch (enumerate_from n batches) ≡ []
no_puts n [] h = refl
no_puts n (b ∷ bs) h = grind (arith, nat_tests, empty_list b.puts, no_puts (n + 1) bs)

pub puts_of_none : (slice batches : List Batch) → slice ≡ batches → have_no_puts slice → puts_in batches ≡ []
puts_of_none slice batches same none = ap puts_in (sym same) ∙ no_puts 0 slice none

pub told_of_none : (s : Setting) (puts : Puts) → puts ≡ [] → None ≡ told s puts
told_of_none s puts none = grind (arith, nat_tests)

pub bytes_of_none : (s : Setting) (r len : ℕ) (puts : Puts) (held : Option (List ℕ)) → puts ≡ [] → IfSome held (λ file. length file ≡ len) → end_for s 0 ≤ len
    → held ≡ after (λ file. (after_round s puts (counted file r)).file) held
bytes_of_none s r len puts None none l h = refl
bytes_of_none s r len puts (Some file) none l h = grind (arith, nat_tests, raised, longer-enough, raised_none, no_need, after_round, counted)

pub needed_of_none : (s : Setting) (puts : Puts) → puts ≡ [] → needed_now s puts ≡ 0
needed_of_none s puts none = ap (needed_now s) none ∙ no_need s

pub put_calls_of_none : (s : Setting) (cut : List ℕ → List (List ℕ)) (puts : Puts) (len r : ℕ) (calls : Option (List DiskCall)) → puts ≡ []
    → calls ≡ with_end calls (put_calls s cut puts len ++ store_records s (nat_lt r r))
put_calls_of_none s cut puts len r calls none = grind (arith, nat_tests, no_calls, not_below, with_end)
