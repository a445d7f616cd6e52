-- The file, its record count and its device calls in a meeting.
use Rattle.turn_run.proofs.Words.{◌≡◌, ℕ, ◌≤◌, ◌∙◌, ap, List, [], ◌++◌, length, max, true, false, Option, Some, None, inl, inr, arith, nat_tests, flat_map, nat_lt, if◌then◌else◌, IfSome, Batch, Post, Hints, DiskCall, after, with_end, needed_now, collective_windows, get_bytes, loads, put_calls, store_records, Counted, Setting, end_for, needs, raised, told, is_sound, with_records, Puts, after_round, counted, gets_in, puts_in, ArePuts, IsCount, IsRise, met, met_calls, no_need, raised_records, with_end-with_end, ◌⊎◌}
use Rattle.list_laws.proofs.Common.{some_or_none}
use Rattle.turn_run.proofs.CountLaws.{count_longer, count_max, rise_longer}
use Rattle.turn_run.proofs.MeetPosts.{needed_rise}
use Rattle.turn_run.proofs.WrittenTwice.{counted_twice}

-- ---- what puts need

puts_rise : (s : Setting) (len : ℕ) (puts : Puts) → is_sound s.header ≡ true → ArePuts s.header puts → end_for s (needed_now s puts) ≤ len → IsRise s.header len (needed_now s puts)
puts_rise s len puts h are l = elim (some_or_none (told s puts)) [
  | inl e ↦ grind (arith, e, needs, needed_rise s.header len (λ (p : ℕ × Post). p.1) puts h are)
  | inr p ↦ grind (arith, p.1, needs)
]

pub round_count : (s : Setting) (before len r n : ℕ) (puts : Puts) → is_sound s.header ≡ true → ArePuts s.header puts → IsCount s.header before r → before ≤ len
    → end_for s (needed_now s puts) ≤ len → n ≡ max r (needed_now s puts) → IsCount s.header len n
round_count s before len r n puts h are k l room e = grind (arith, nat_tests, count_max s.header len r (needed_now s puts) (count_longer s.header before len r l k) (puts_rise s len puts h are room))

pub met_count : (s : Setting) (before len last r n known : ℕ) → IsCount s.header len r → before ≤ len → IsRise s.header before known → last ≡ len → n ≡ max r known → IsCount s.header last n
met_count s before len last r n known k l rise same e =
    grind (arith, nat_tests, count_max s.header last r known (count_longer s.header len last r (omega arith) k) (rise_longer s.header before last known (omega arith) rise))

-- what the puts need, or what the ranks know, is 0
one_raises : (s : Setting) (puts : Puts) (known : ℕ) → (known ≡ 0) ⊎ (puts ≡ []) → (known ≡ 0) ⊎ (needed_now s puts ≡ 0)
one_raises s puts known one = grind (arith, nat_tests, no_need s, one)

-- ---- the count is raised by the puts, and then to what the ranks know

pub not_below : (a b : ℕ) → b ≤ a → nat_lt a b ≡ false
not_below a b h = grind (arith, nat_tests)

pub raised_none : (s : Setting) (c : Counted) (n : ℕ) → n ≤ c.records → raised s c n ≡ c
raised_none s c n h = grind (arith, nat_tests, not_below c.records n h)

pub twice_raised : (s : Setting) (c : Counted) (r n known : ℕ) → r ≡ max c.records n
    → (if nat_lt r known then with_records s.header.version (raised s c n).file known else (raised s c n).file) ≡ (raised s c (max n known)).file
twice_raised s c r n known f = grind (arith, nat_tests, raised s c (max n known), counted_twice s.header.version c.file n known, raised_none s c (max n known))

-- ---- the meeting

pub met_bytes : (s : Setting) (batches : List Batch) (r n known : ℕ) (held mid late last : Option (List ℕ))
    → mid ≡ after (λ file. (after_round s (puts_in batches) (counted file r)).file) held → n ≡ max r (needed_now s (puts_in batches))
    → late ≡ after (λ file. if nat_lt n known then with_records s.header.version file known else file) mid → last ≡ late
    → last ≡ after (λ file. (met s batches known (counted file r)).file) held
met_bytes s batches r n known None mid late last p e k g = grind (arith, nat_tests)
met_bytes s batches r n known (Some file) mid late last p e k g = g ∙ k ∙ ap (after (λ file. if nat_lt n known then with_records s.header.version file known else file)) p
    ∙ ap (λ (bytes : List ℕ). Some bytes) (twice_raised s _ _ _ known e)

pub met_called : (hints : Hints) (s : Setting) (batches : List Batch) (r n known len : ℕ) (held : Option (List ℕ)) (calls mid late last : Option (List DiskCall))
    → (known ≡ 0) ⊎ (puts_in batches ≡ []) → IfSome held (λ file. length file ≡ len)
    → mid ≡ with_end calls (put_calls s (collective_windows hints) (puts_in batches) len ++ store_records s (nat_lt r n)) → n ≡ max r (needed_now s (puts_in batches))
    → late ≡ with_end mid (store_records s (nat_lt n known)) → last ≡ with_end late (flat_map loads (collective_windows hints (get_bytes s (gets_in batches))))
    → IfSome held (λ file. last ≡ with_end calls (met_calls hints s batches known (counted file r)))
met_called hints s batches r n known len None calls mid late last one l p e k g = tt
met_called hints s batches r n known len (Some file) calls mid late last one l p e k g =
    grind (arith, nat_tests, raised, raised_records, not_below, one_raises, with_end-with_end, with_end, met_calls, counted, flat_map, gets_in)
