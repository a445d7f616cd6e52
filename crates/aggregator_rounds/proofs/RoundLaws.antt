-- What a window leaves on a disk that may tell its bytes and its calls.
use Rattle.aggregator_rounds.proofs.Words.{◌≡◌, ℕ, ◌+◌, ◌-◌, ◌<◌, ◌≤◌, refl, sym, ◌∙◌, ap, List, [], ◌∷◌, length, take, drop, Bool, true, false, Option, Some, None, arith, IfSome, if◌then◌else◌, no_none_some, DiskCall, at, read, written, Cell, said_at, said_by, write_cells, IsFrom, IsWithin, moved_down, length-written_inside, HasPlace, IsBetween, IsBegun, load_calls, store_calls, cells_long, moved_said, within_lowered, kept_read, window_answer, read_slice, after, with_end, BothTold, PartlyWritten, nat_tests, common_steps}

pub got_read : (held : Option (List ℕ)) (buf : List ℕ) (x m n size : ℕ) → IfSome held (λ b. length b ≡ size) → m ≡ n → x + n ≤ size
    → IfSome held (λ file. buf ≡ take m (drop x file)) → IfSome held (λ file. buf ≡ read file x n)
got_read held buf x m n size long e room h = grind (arith, nat_tests, read_slice)

-- ---- cells seen from two places

lowered_twice : (from lo : ℕ) (cells : List Cell) → from ≤ lo → moved_down (lo - from) (moved_down from cells) ≡ moved_down lo cells
lowered_twice from lo [] h = refl
lowered_twice from lo (c ∷ cells) h = grind (arith, nat_tests, lowered_twice from lo cells h)

from_lowered : (from lo : ℕ) (cells : List Cell) → IsFrom lo cells → IsFrom (lo - from) (moved_down from cells)
from_lowered from lo [] h = tt
from_lowered from lo (c ∷ cells) h = let a : lo ≤ c.0 = h.0 in (omega arith, from_lowered from lo cells h.1)

pub from_less : (from lo : ℕ) (cells : List Cell) → from ≤ lo → IsFrom lo cells → IsFrom from cells
from_less from lo [] l h = tt
from_less from lo (c ∷ cells) l h = let a : lo ≤ c.0 = h.0 in (omega arith, from_less from lo cells l h.1)

-- ---- the window

-- a buffer that was read, or of which each byte has a piece, overlaid and written
window_over : (full : Bool) (file buf : List ℕ) (from lo n : ℕ) (cells : List Cell) → length buf ≡ n → from ≤ lo → lo - from + n ≤ length file
    → IsFrom lo cells → IsWithin cells (lo + n)
    → (full ≡ true → (x : ℕ) → lo ≤ x → x < lo + n → HasPlace cells x)
    → (full ≡ false → buf ≡ read file (lo - from) n)
    → written file (lo - from) (write_cells buf (moved_down lo cells)) ≡ write_cells file (moved_down from cells)
window_over full file buf from lo n cells long low room least most whole was_read =
    ap (λ (cs : List Cell). written file (lo - from) (write_cells buf cs)) (sym (lowered_twice from lo cells low))
    ∙ window_answer file buf n (lo - from) (moved_down from cells) long room (from_lowered from lo cells least)
    (grind (arith, common_steps, within_lowered from (lo - from + n) cells (from_less from lo cells low least), from_less from lo cells low least))
    (kept full whole was_read)
  where
    kept : (full : Bool) → (full ≡ true → (x : ℕ) → lo ≤ x → x < lo + n → HasPlace cells x) → (full ≡ false → buf ≡ read file (lo - from) n)
        → (x : ℕ) → lo - from ≤ x → x < lo - from + n → said_at (said_by (moved_down from cells)) x ≡ None → at buf (x - (lo - from)) ≡ at file x
    kept false whole was_read x h k none = kept_read file buf (lo - from) n x (was_read refl) h k
    kept true whole was_read x h k none =
        let place : (x + from) - from ≡ x = omega arith in
        let has = whole refl (x + from) (omega arith) (omega arith) in
        no_none_some has.0
        (sym none ∙ ap (λ (y : ℕ). said_at (said_by (moved_down from cells)) y) (sym place)
        ∙ moved_said from cells (x + from) (from_less from lo cells low least) (omega arith) ∙ has.1)

-- the calls of a window of which the write was refused
pub window_begun : (full : Bool) (x n : ℕ) (old mid now : Option (List DiskCall)) → mid ≡ with_end old (if full then [] else load_calls (x, n, full)) → now ≡ mid
    → IsBegun (store_calls (x, n, full)) old now
window_begun true x n old mid now e f = (0, f ∙ e)
window_begun false x n old mid now e f = (1, f ∙ e)

-- the same of a disk that may tell its bytes, by a write that is told of the disk as it was opened
pub window_told_by : (held mid now : Option (List ℕ)) (full : Bool) (buf inner : List ℕ) (from begin lo n size : ℕ) (cells : List Cell)
    → begin ≡ from → mid ≡ held → inner ≡ write_cells buf (moved_down lo cells) → IfSome held (λ b. length b ≡ size)
    → length buf ≡ n → from ≤ lo → lo + n ≤ from + size → IsFrom lo cells → IsWithin cells (lo + n)
    → (full ≡ true → (x : ℕ) → lo ≤ x → x < lo + n → HasPlace cells x)
    → (full ≡ false → IfSome held (λ file. buf ≡ read file (lo - from) n))
    → now ≡ after (λ file. written file (lo - begin) inner) mid
    → now ≡ after (λ file. write_cells file (moved_down from cells)) held
window_told_by None mid now full buf inner from begin lo n size cells e f i told long low room least most whole was_read h = grind (arith, nat_tests, written)
window_told_by (Some file) mid now full buf inner from begin lo n size cells e f i told long low room least most whole was_read h =
    h ∙ (λ t. after (λ file. written file (lo - e t) (i t)) (f t)) ∙ ap Some (window_over full file buf from lo n cells long low (omega arith) least most whole was_read)

pub window_refused_by : (held mid left : Option (List ℕ)) (full : Bool) (buf inner : List ℕ) (from begin lo n size : ℕ) (cells : List Cell)
    → begin ≡ from → mid ≡ held → inner ≡ write_cells buf (moved_down lo cells) → IfSome held (λ b. length b ≡ size)
    → length buf ≡ n → from ≤ lo → lo + n ≤ from + size → IsFrom lo cells → IsWithin cells (lo + n)
    → (full ≡ true → (x : ℕ) → lo ≤ x → x < lo + n → HasPlace cells x)
    → (full ≡ false → IfSome held (λ file. buf ≡ read file (lo - from) n))
    → BothTold (PartlyWritten (lo - begin) inner) mid left
    → BothTold (λ old now. IsBetween old (write_cells old (moved_down from cells)) now) held left
window_refused_by None mid left full buf inner from begin lo n size cells e f i told long low room least most whole was_read h = grind (arith, nat_tests)
window_refused_by (Some file) mid left full buf inner from begin lo n size cells e f i told long low room least most whole was_read h =
    grind (arith, nat_tests, cells_long (moved_down lo cells) buf, within_lowered lo (length buf) cells least, length-written_inside, window_over full file buf from lo n cells long low)
