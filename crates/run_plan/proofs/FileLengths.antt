-- How long the file is after a step.
use Rattle.run_plan.proofs.Words.{◌≡◌, ℕ, ◌≤◌, refl, sym, ◌∙◌, ap, List, length, max, Bool, true, false, cond, Option, Some, None, arith, byte_len, w32, w64, Pair, longer, after_puts, end_for, raised, told, Counted, Setting, count, header_len, needed_now, needed_by, Puts, is_sound, length-written_inside, longer_long, count_long, puts_are_cells, cells_of_puts, puts_room, cells_long, ArePuts, field_inside, covered_below, laid_needs, shared_needs, nat_tests}

-- puts make the file as long as their records need, and no longer
pub puts_long : (s : Setting) (puts : Puts) (file : List ℕ) → is_sound s.header ≡ true → ArePuts s.header puts → end_for s 0 ≤ length file
    → length (after_puts s puts (told s puts) file) ≡ max (length file) (end_for s (needed_now s puts))
puts_long s puts file sound are long = by_pair (told s puts) refl
  where
    by_pair : (o : Option Pair) → told s puts ≡ o → length (after_puts s puts o file) ≡ max (length file) (end_for s (needed_now s puts))
    by_pair (Some pair) e = rw (shared_needs s puts pair e) (omega arith)
    by_pair None e =
        let end = end_for s (needed_by s.header puts) in
        let whole = longer file end in
        let wide = longer_long file end in
        let below = covered_below s.header (header_len s.header) puts sound are in
        ap (λ (f : List ℕ). length f) (puts_are_cells s puts whole)
        ∙ cells_long (cells_of_puts s.header puts) whole (puts_room s.header puts (length whole) (λ x m. let b = below x m in omega arith))
        ∙ wide
        ∙ ap (λ (n : ℕ). max (length file) (end_for s n)) (sym (laid_needs s puts e))

width_few : (t : Bool) → byte_len (cond t w64 w32) ≤ 8
width_few true = omega arith
width_few false = omega arith

-- the write of a count keeps the length
pub raised_long : (s : Setting) (c : Counted) (n : ℕ) → end_for s 0 ≤ length c.file → length (raised s c n).file ≡ length c.file
raised_long s c n long = grind (arith, nat_tests, field_inside s.header, count_long, width_few, length-written_inside c.file 4 (count s.header.version n))
