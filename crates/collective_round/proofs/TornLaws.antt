-- What a refused step of puts leaves of a file.
use Rattle.collective_round.proofs.Words.{Header, lt-ltb, ◌≡◌, ℕ, ◌+◌, ◌<◌, ◌≤◌, refl, subst, List, [], length, Bool, true, false, cond, Option, Some, None, arith, nat_lt, byte_len, Pair, PartlyWritten, after, BothTold, told_as, at, longer, Setting, end_for, after_puts, told, count, count_width, is_sound, needed_by, with_records, Puts, covered, IsTorn, IsBetween, needed_now, ArePuts, after_round, counted, after_keeps, longer_long, after_long, after_grows, raised_grows, nat_tests, at-longer}
use Rattle.list_laws.proofs.Truth.{either}
use Rattle.collective_round.proofs.PutLaws.{laid_round}
use Rattle.collective_round.proofs.StepLaws.{round_by}
use Rattle.collective_round.proofs.TornFiles.{covered_past, field_of, torn_by, torn_laid, torn_wider, counted_past, torn_counted, torn_after, torn_stored}

-- ---- a step, on a disk that may tell its bytes

-- nothing was written
pub none_torn : (bytes : List ℕ) (field : ℕ) (whole : List ℕ → List ℕ) (held : Option (List ℕ)) → ((file : List ℕ) → length file ≤ length (whole file))
    → BothTold (λ old left. IsTorn bytes field old (whole old) left) held held
none_torn bytes field whole held grows = grind (arith, nat_tests)

pub round_grows : (s : Setting) (puts : Puts) (records : ℕ) (file : List ℕ) → length file ≤ length (after_round s puts (counted file records)).file
round_grows s puts records file =
    grind (arith, nat_tests, after_grows s puts (told s puts) file, raised_grows s (counted (after_puts s puts (told s puts) file) records) (needed_now s puts))

pub round_untouched : (s : Setting) (puts : Puts) (records : ℕ) (held : Option (List ℕ))
    → BothTold (λ old left. IsTorn (covered s.header puts) (field_of s.header) old (after_round s puts (counted old records)).file left) held held
round_untouched s puts records held = none_torn (covered s.header puts) (field_of s.header) (λ file. (after_round s puts (counted file records)).file) held (round_grows s puts records)

-- the disk grew, at most to the end for the puts
pub grown_torn : (s : Setting) (puts : Puts) (n m : ℕ) (held now : Option (List ℕ)) → n ≡ needed_by s.header puts
    → (now ≡ after (λ file. longer file m) held) × (m ≤ end_for s n)
    → BothTold (λ old left. IsTorn (covered s.header puts) 0 old (after_puts s puts None old) left) held now
grown_torn s puts n m None now is h = h.0
grown_torn s puts n m (Some old) now is h =
    grind (arith, nat_tests, longer old m, at-longer, longer_long old m, after_long s puts old)

-- some of the windows were written
pub laid_torn : (s : Setting) (puts : Puts) (n : ℕ) (held mid now : Option (List ℕ)) (g : List ℕ → List ℕ) → n ≡ needed_by s.header puts
    → mid ≡ after (λ file. longer file (end_for s n)) held → ((file : List ℕ) → g (longer file (end_for s n)) ≡ after_puts s puts None file)
    → BothTold (λ old left. IsBetween old (g old) left) mid now
    → BothTold (λ old left. IsTorn (covered s.header puts) 0 old (after_puts s puts None old) left) held now
laid_torn s puts n held mid now g is e whole b = grind (arith, nat_tests, torn_laid)

-- a file whose count is raised, or which stays
abbrev counted_file : Header → ℕ → Bool → List ℕ → List ℕ
counted_file header n t file = cond t (with_records header.version file n) file

counted_agree : (header : Header) (n : ℕ) (t : Bool) (file : List ℕ) (x : ℕ) → 4 + field_of header ≤ x → at (counted_file header n t file) x ≡ at file x
counted_agree header n true file x h = counted_past header.version n file x h
counted_agree header n false file x h = refl

-- the puts were cut off, of a round that would raise the count after them
pub puts_torn : (s : Setting) (puts : Puts) (records : ℕ) (held now : Option (List ℕ)) → is_sound s.header ≡ true → ArePuts s.header puts → told s puts ≡ None
    → BothTold (λ old left. IsTorn (covered s.header puts) 0 old (after_puts s puts None old) left) held now
    → BothTold (λ old left. IsTorn (covered s.header puts) (field_of s.header) old (after_round s puts (counted old records)).file left) held now
puts_torn s puts records held now sound are none b =
    told_as (λ old left. IsTorn (covered s.header puts) 0 old (after_puts s puts None old) left)
    (λ old left. IsTorn (covered s.header puts) (field_of s.header) old (after_round s puts (counted old records)).file left) held now
    (λ old left t. subst (λ (f : List ℕ). IsTorn (covered s.header puts) (field_of s.header) old f left) (laid_round s puts records old none)
    (either (λ (f : List ℕ). IsTorn (covered s.header puts) (field_of s.header) old f left) (nat_lt records (needed_by s.header puts))
    (with_records s.header.version (after_puts s puts None old) (needed_by s.header puts)) (after_puts s puts None old)
    (λ e. torn_counted s.header.version (needed_by s.header puts) (covered s.header puts) old (after_puts s puts None old) left (λ x m. covered_past s.header puts x sound are m) t)
    (λ e. torn_wider (covered s.header puts) (field_of s.header) old (after_puts s puts None old) left t)))
    b

-- the count was cut off
pub count_torn : (s : Setting) (puts : Puts) (records n : ℕ) (held mid now : Option (List ℕ)) → is_sound s.header ≡ true → ArePuts s.header puts
    → n ≡ needed_by s.header puts → told s puts ≡ None → mid ≡ after (after_puts s puts None) held
    → BothTold (λ old left. IsTorn [] (field_of s.header) old (counted_file s.header n (nat_lt records n) old) left) mid now
    → BothTold (λ old left. IsTorn (covered s.header puts) (field_of s.header) old (after_round s puts (counted old records)).file left) held now
count_torn s puts records n None mid now sound are is none f b = grind (arith, nat_tests)
count_torn s puts records n (Some old) mid now sound are is none f b =
    let whole = after_puts s puts None old in
    let new = counted_file s.header n (nat_lt records n) whole in
    let r = subst (λ (m : Option (List ℕ)). BothTold (λ file left. IsTorn [] (field_of s.header) file (counted_file s.header n (nat_lt records n) file) left) m now) f b in grind (arith, nat_tests, round_by s puts records n old is none, torn_after (covered s.header puts) (field_of s.header) old whole new r.0 (after_grows s puts None old), after_grows s puts None old, after_keeps s puts None old, covered_past s.header puts, counted_agree s.header n (nat_lt records n) whole, r.1, r.2)

-- the write of the count
pub store_torn : (version records needed : ℕ) (held now : Option (List ℕ)) → records < needed → BothTold (PartlyWritten 4 (count version needed)) held now
    → BothTold (λ old left. IsTorn [] (byte_len (count_width version)) old (cond (nat_lt records needed) (with_records version old needed) old) left) held now
store_torn version records needed held now h b = grind (arith, nat_tests, lt-ltb, torn_stored)

-- the same of one rank's puts
pub own_torn : (s : Setting) (puts : Puts) (held now : Option (List ℕ)) → told s puts ≡ None
    → BothTold (λ old left. IsTorn (covered s.header puts) 0 old (after_puts s puts None old) left) held now
    → BothTold (λ old left. IsTorn (covered s.header puts) 0 old (after_puts s puts (told s puts) old) left) held now
own_torn s puts held now none b = grind (arith, nat_tests)

-- all was written, and a later call was refused
pub done_torn : (s : Setting) (puts : Puts) (pair : Option Pair) (held now : Option (List ℕ)) → now ≡ after (after_puts s puts pair) held
    → BothTold (λ old left. IsTorn (covered s.header puts) 0 old (after_puts s puts pair old) left) held now
done_torn s puts pair held now e = grind (arith, nat_tests, torn_by, after_grows, after_keeps)
