-- A byte after writes and puts is what the last of them that has it says, else the old one.
use Rattle.serial_spec.proofs.Words.{◌≡◌, ℕ, zero, suc, ◌+◌, ◌-◌, ◌<◌, ◌≤◌, refl, ap, List, [], ◌∷◌, ◌++◌, length, take, drop, get_or, Bool, true, cond, Option, Some, None, arith, common_steps, flat_map-append, fold-append, get_or-append_right, get_or_append_left, nat_tests, fold, flat_map, zip, ◌==◌, slice_get, enumerate_from, range_with_len, option_or, equal_above, equal_below, neither_some, option_or_assoc, none_last, Header, Var, Post, at, longer, written, one_says, said_at, byte_or, Cell, write_cells, said_by, size_of, cells, places, Puts, bytes_of_some, said_by_puts, Setting, put_post, after_puts, ltb-true, ltb-false}
use Rattle.std.proofs.lemmas.List.{length-append}
use Rattle.serial_spec.proofs.FileLaws.{at-longer, at-written_before, at-written_after, written-front}

-- ---- options

pub byte_or_later : (o q : Option ℕ) (b : ℕ) → byte_or o (byte_or q b) ≡ byte_or (option_or o q) b
byte_or_later o q b = grind (arith, nat_tests)

-- ---- one pair

pub one_hit : {A : Type 0} (y x : ℕ) (a : A) → (y == x) ≡ true → one_says y a x ≡ Some a
one_hit y x a e = ap (λ (t : Bool). cond t (Some a) None) e

-- ---- one cell

pub said_below : {A : Type 0} (p : ℕ) (b : List A) (x : ℕ) → x < p → said_at (enumerate_from p b) x ≡ None
said_below p [] x h = refl
said_below p (v ∷ b) x h = grind (arith, nat_tests, neither_some, said_below (p + 1) b x, equal_above, said_at)

pub said_past : {A : Type 0} (p : ℕ) (b : List A) (x : ℕ) → p + length b ≤ x → said_at (enumerate_from p b) x ≡ None
said_past p [] x h = refl
said_past p (v ∷ b) x h = grind (arith, nat_tests, neither_some, said_past (p + 1) b x, equal_below, said_at)

pub said_inside : {A : Type 0} (p : ℕ) (b : List A) (x : ℕ) (d : A) → p ≤ x → x < p + length b → said_at (enumerate_from p b) x ≡ Some (get_or b (x - p) d)
said_inside p [] x d h k = absurd (omega arith)
said_inside p (v ∷ b) x d h k = grind (arith, nat_tests, said_inside (p + 1) b x d, said_below (p + 1) b x)

-- ---- a write

pub taken_long : (file : List ℕ) (x : ℕ) → length (take x (longer file x)) ≡ x
taken_long file x = grind (arith, common_steps)

front_long : (file b : List ℕ) (x : ℕ) → length (take x (longer file x) ++ b) ≡ x + length b
front_long file b x = grind (arith, nat_tests, length-append, take, longer, common_steps)

pub at-written_inside : (file b : List ℕ) (x y : ℕ) → x ≤ y → y < x + length b → at (written file x b) y ≡ get_or b (y - x) 0
at-written_inside file b x y h k = grind (arith, nat_tests, front_long, written-front, get_or_append_left, get_or-append_right, common_steps)

-- ---- cells

pub said_append : {A : Type 0} (ps qs : List (ℕ × A)) (x : ℕ) → said_at (ps ++ qs) x ≡ option_or (said_at qs x) (said_at ps x)
said_append [] qs x = none_last (said_at qs x)
said_append (p ∷ ps) qs x = grind (arith, nat_tests, said_append ps qs x, option_or_assoc, said_at, one_says)

-- each byte of a file after cells were written
pub cells_said : (cells : List Cell) (file : List ℕ) (x : ℕ) → at (write_cells file cells) x ≡ byte_or (said_at (said_by cells) x) (at file x)
cells_said [] file x = refl
cells_said (c ∷ cells) file x = grind (arith, nat_tests, cells_said cells (written file c.0 c.1) x, at-written_inside, said_inside, at-written_after, said_past, at-written_before, said_below, ltb-true, ltb-false, byte_or_later, said_append)

-- ---- puts

abbrev cells_of_some : Header → Option Var → Post → List Cell
cells_of_some header None post = []
cells_of_some header (Some var) post = cells (size_of var.kind) (places header var post.region) post.bytes

abbrev cells_of : Header → Post → List Cell
cells_of header post = cells_of_some header (slice_get header.vars post.var) post

abbrev cells_of_puts : Header → Puts → List Cell
cells_of_puts header puts = flat_map (λ p. cells_of header p.1) puts

-- the model's step, as cells
pub puts_are_cells : (s : Setting) (puts : Puts) (file : List ℕ) → fold (put_post s) file puts ≡ write_cells file (cells_of_puts s.header puts)
puts_are_cells s [] file = refl
puts_are_cells s (p ∷ puts) file = grind (arith, nat_tests, puts_are_cells s puts (put_post s file p), fold-append)

-- ---- what cells of elements say

pub range_and_rest : (p n : ℕ) (rest b : List ℕ) → zip (range_with_len p n ++ rest) b ≡ enumerate_from p (take n b) ++ zip rest (drop n b)
range_and_rest p zero rest b = refl
range_and_rest p (suc n) [] [] = refl
range_and_rest p (suc n) (y ∷ rest) [] = refl
range_and_rest p (suc n) rest (v ∷ b) = grind (arith, nat_tests, range_and_rest (p + 1) n rest b)

cells_say : (size : ℕ) (ps bytes : List ℕ) → said_by (cells size ps bytes) ≡ zip (flat_map (λ x. range_with_len x size) ps) bytes
cells_say size [] bytes = refl
cells_say size (p ∷ ps) bytes = grind (arith, nat_tests, cells_say size ps (drop size bytes), range_and_rest p size)

pub post_says : (header : Header) (v : Option Var) (post : Post) → said_by (cells_of_some header v post) ≡ zip (bytes_of_some header v post) post.bytes
post_says header v post = grind (arith, nat_tests, cells_say)

pub puts_say : (header : Header) (puts : Puts) → said_by (cells_of_puts header puts) ≡ said_by_puts header puts
puts_say header [] = refl
puts_say header (p ∷ puts) = grind (arith, nat_tests, puts_say header puts, flat_map-append, post_says)

-- ---- the law

pub puts_said : (s : Setting) (puts : Puts) (file : List ℕ) (x : ℕ) → at (after_puts s puts None file) x ≡ byte_or (said_at (said_by_puts s.header puts) x) (at file x)
puts_said s puts file x = grind (arith, nat_tests, puts_are_cells, cells_said, puts_say, at-longer)
