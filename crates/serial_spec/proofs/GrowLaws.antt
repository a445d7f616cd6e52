-- No step makes a file shorter.
use Rattle.serial_spec.proofs.Words.{ℕ, ◌≤◌, List, [], ◌∷◌, length, map, take, drop, set, max, Option, None, arith, common_steps, flat_map, fold, enumerate_from, le_two, Pair, Mark, Meet, Solo, written, Counted, Setting, after_puts, end_for, put_post, puts_of, raised, told, count, needed_by, cells, Going, advance, after_mark, offers_of, Puts, nat_tests}
use Rattle.serial_spec.proofs.FileLaws.{longer_long}

pub written_grows : (file : List ℕ) (x : ℕ) (b : List ℕ) → length file ≤ length (written file x b)
written_grows file x b = grind (arith, common_steps)

cells_grow : (size : ℕ) (ps bytes file : List ℕ) → length file ≤ length (fold (λ f cell. written f cell.0 cell.1) file (cells size ps bytes))
cells_grow size [] bytes file = omega arith
cells_grow size (p ∷ ps) bytes file = grind (arith, nat_tests, cells_grow size ps (drop size bytes) (written file p (take size bytes)), written_grows)

puts_grow : (s : Setting) (puts : Puts) (file : List ℕ) → length file ≤ length (fold (put_post s) file puts)
puts_grow s [] file = omega arith
puts_grow s (p ∷ puts) file = grind (arith, nat_tests, puts_grow s puts (put_post s file p), cells_grow)

pub after_long : (s : Setting) (puts : Puts) (file : List ℕ) → max (length file) (end_for s (needed_by s.header puts)) ≤ length (after_puts s puts None file)
after_long s puts file = grind (arith, nat_tests, longer_long, puts_grow)

pub after_grows : (s : Setting) (puts : Puts) (pair : Option Pair) (file : List ℕ) → length file ≤ length (after_puts s puts pair file)
after_grows s puts pair file = grind (arith, nat_tests, after_long)

pub raised_grows : (s : Setting) (c : Counted) (n : ℕ) → length c.file ≤ length (raised s c n).file
raised_grows s c n = grind (arith, nat_tests, written_grows c.file 4 (count s.header.version n))

-- each step of an order, and the close, leaves a file that is as long at least
pub mark_grows : (s : Setting) (state : Counted × List Going) (m : Mark) → length state.0.file ≤ length (after_mark s state m).0.file
mark_grows s state (Meet k) =
    let offers = offers_of (map (advance s.header) state.1) in
    grind (arith, common_steps, le_two (length state.0.file) (length (after_puts s (flat_map puts_of (enumerate_from 0 offers)) (told s (flat_map puts_of (enumerate_from 0 offers))) state.0.file)), after_grows s (flat_map puts_of (enumerate_from 0 offers)) (told s (flat_map puts_of (enumerate_from 0 offers))) state.0.file, raised_grows s)
mark_grows s state (Solo r c) = grind (arith, nat_tests, after_grows, set)
