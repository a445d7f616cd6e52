-- The header's field has the record count wherever that grew, and is as it was where it didn't.
use Rattle.whole_run_laws.proofs.Words.{holds_or_not, read_same, ◌≡◌, ℕ, ◌+◌, ◌<◌, ◌≤◌, List, [], ◌∷◌, length, map, true, Option, arith, fold, byte_len, any_in, Pair, Header, Script, Mark, Meet, Solo, read, written, after_puts, Counted, puts_of, raised, Setting, told, count, count_width, is_sound, IsLegal, is_lawful, advance, after_mark, first_state, Going, offers_of, serial_from, setting_of, covered, Puts, after_keeps, count_long, at-written_inside, canon_len, is_held, puts_met, nat_tests}
use Rattle.whole_run_laws.proofs.Courses.{offered_alone, steps}
use Rattle.whole_run_laws.proofs.FilledFile.{read_all}
use Rattle.whole_run_laws.proofs.PastLaws.{AllPast, AreRight, first_right, mark_past, mark_right}

-- the field of a file that was opened with the header's count
pub record FieldIs (header : Header) (file : List ℕ) (c : Counted) : Type 0 where
  pub least : header.records ≤ c.records
  pub same : c.records ≡ header.records → read c.file 4 (byte_len (count_width header.version)) ≡ read file 4 (byte_len (count_width header.version))
  pub tells : header.records < c.records → read c.file 4 (byte_len (count_width header.version)) ≡ count header.version c.records

read_written : (file b : List ℕ) (x n : ℕ) → n ≡ length b → read (written file x b) x n ≡ b
read_written file b x n e = grind (arith, nat_tests, read_all, at-written_inside)

puts_beside : (s : Setting) (puts : Puts) (pair : Option Pair) (file : List ℕ) → AllPast s.header puts
    → read (after_puts s puts pair file) 4 (byte_len (count_width s.header.version)) ≡ read file 4 (byte_len (count_width s.header.version))
puts_beside s puts pair file past =
    read_same (after_puts s puts pair file) file 4 4 (byte_len (count_width s.header.version)) (λ i l.
    grind (arith, nat_tests, holds_or_not (is_held s.header puts (4 + i)), any_in (covered s.header puts) (4 + i), canon_len s.header, past (4 + i), after_keeps s puts pair file (4 + i)))

with_puts : (s : Setting) (puts : Puts) (pair : Option Pair) (file : List ℕ) (c : Counted) → AllPast s.header puts → FieldIs s.header file c
    → FieldIs s.header file (record { file = after_puts s puts pair c.file; records = c.records })
with_puts s puts pair file c past f = grind (arith, nat_tests, puts_beside)

raised_field : (s : Setting) (file : List ℕ) (c : Counted) (n : ℕ) → FieldIs s.header file c → FieldIs s.header file (raised s c n)
raised_field s file c n f =
    grind (arith, nat_tests, read_written c.file (count s.header.version n) 4 (byte_len (count_width s.header.version)), count_long s.header.version n)

mark_field : (script : Script) (s : Setting) (m : Mark) (rest : List Mark) (file : List ℕ) (c : Counted) (goings : List Going) → AreRight script s.header (m ∷ rest) goings
    → FieldIs s.header file c → FieldIs s.header file (after_mark s (c, goings) m).0
mark_field script s (Meet j) rest file c goings a f =
    let offers = offers_of (map (advance s.header) goings) in
    let puts = puts_met offers in
    grind (arith, nat_tests, told s puts, raised_field s file (record { file = after_puts s puts (told s puts) c.file; records = c.records }), with_puts s puts (told s puts) file c (mark_past script s (Meet j) rest c goings a) f, mark_past script s (Meet j) rest c goings a, c.file)
mark_field script s (Solo r n) rest file c goings a f =
    let st = steps s c a.along in
    grind (arith, nat_tests, offered_alone st, mark_past script s (Solo r n) rest c goings a, with_puts s (puts_of (r, st.at.asks.offer)) (told s (puts_of (r, st.at.asks.offer))) file c, told s (puts_of (r, st.at.asks.offer)), s.header, st.state)

order_field : (script : Script) (s : Setting) (order : List Mark) (file : List ℕ) (state : Counted × List Going) → AreRight script s.header order state.1
    → FieldIs s.header file state.0 → FieldIs s.header file (fold (after_mark s) state order).0
order_field script s [] file state a f = f
order_field script s (m ∷ order) file state a f =
    order_field script s order file (after_mark s state m) (mark_right script s m order state a) (mark_field script s m order file state.0 state.1 a f)

pub end_field : (script : Script) (header : Header) (file : List ℕ) (order : List Mark) → is_sound header ≡ true → is_lawful script ≡ true → IsLegal script order
    → FieldIs header file (record { file = (serial_from script header file order).bytes; records = (serial_from script header file order).records })
end_field script header file order sound lawful legal =
    let s = setting_of script header in
    grind (arith, nat_tests, raised_field s file (fold (after_mark s) (first_state header file script.calls) order).0, order_field script s order file (first_state header file script.calls), first_right script header order sound lawful legal)
