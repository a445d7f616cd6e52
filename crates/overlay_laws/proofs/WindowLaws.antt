-- Windows that are read, overlaid and written are cells that are written; windows that have every cell are the cells.
use Rattle.overlay_laws.proofs.Words.{◌≡◌, ℕ, ◌+◌, ◌-◌, ◌<◌, ◌≤◌, refl, ◌∙◌, ap, List, [], ◌∷◌, ◌++◌, length, Some, None, arith, common_steps, flat_map-append, fold-append, fold, flat_map, nat_lt, map, enumerate_from, at-written_before, at-written_after, length-written_inside, said_below, said_past, said_inside, at-written_inside, said_append, cells_said, no_none_some, neither_some, second_counts, first_counts, at, written, option_or, said_at, Cell, write_cells, said_by, IsWithin, IsFrom, moved_down, IsPart, AreParts, SomeSays, clip, clips, IsInOne, HasEach, nat_tests, cond, some_or_none, leb_tells, ltb-true, ltb-false}
use Rattle.overlay_laws.proofs.SaidLaws.{cells_long, same_file, same_said, same_told}

-- ---- cells seen from a place on

-- what a cell says of a place
said_cell : (p : ℕ) (b : List ℕ) (x : ℕ) → said_at (enumerate_from p b) x ≡ cond (nat_lt x p) None (cond (nat_lt x (p + length b)) (Some (at b (x - p))) None)
said_cell p b x = grind (arith, nat_tests, said_below, said_inside p b x 0, said_past)

pub moved_said : (lo : ℕ) (cells : List Cell) (x : ℕ) → IsFrom lo cells → lo ≤ x
    → said_at (said_by (moved_down lo cells)) (x - lo) ≡ said_at (said_by cells) x
moved_said lo [] x h k = refl
moved_said lo (c ∷ cells) x h k = grind (arith, nat_tests, moved_said lo cells x h.1 k, said_append, said_cell)

pub within_lowered : (lo n : ℕ) (cells : List Cell) → IsFrom lo cells → IsWithin cells (lo + n) → IsWithin (moved_down lo cells) n
within_lowered lo n [] h k = tt
within_lowered lo n (c ∷ cells) h k = grind (arith, nat_tests, within_lowered lo n cells h.1 k.1)

pub within_more : (cells : List Cell) (n m : ℕ) → n ≤ m → IsWithin cells n → IsWithin cells m
within_more [] n m h k = tt
within_more (c ∷ cells) n m h k = let b : c.0 + length c.1 ≤ n = k.0 in (omega arith, within_more cells n m h k.1)

pub none_below : (lo : ℕ) (cells : List Cell) (x : ℕ) → IsFrom lo cells → x < lo → said_at (said_by cells) x ≡ None
none_below lo [] x h k = refl
none_below lo (c ∷ cells) x h k = grind (arith, nat_tests, none_below lo cells x h.1 k, said_append, neither_some, said_below)

pub none_past : (n : ℕ) (cells : List Cell) (x : ℕ) → IsWithin cells n → n ≤ x → said_at (said_by cells) x ≡ None
none_past n [] x h k = refl
none_past n (c ∷ cells) x h k = grind (arith, nat_tests, none_past n cells x h.1 k, said_append, neither_some, said_past)

-- ---- one window

-- A buffer that has the file's bytes wherever no piece has the place, overlaid and written, writes the pieces.
pub window_done : (file buf : List ℕ) (lo : ℕ) (pieces : List Cell) → lo + length buf ≤ length file → IsFrom lo pieces → IsWithin pieces (lo + length buf)
    → ((x : ℕ) → lo ≤ x → x < lo + length buf → said_at (said_by pieces) x ≡ None → at buf (x - lo) ≡ at file x)
    → written file lo (write_cells buf (moved_down lo pieces)) ≡ write_cells file pieces
window_done file buf lo pieces room low high kept =
    let long = cells_long (moved_down lo pieces) buf (within_lowered lo (length buf) pieces low high) in
    same_file _ _ (grind (arith, nat_tests, long, length-written_inside, cells_long pieces file, within_more pieces (lo + length buf)))
    (λ x. grind (arith, nat_tests, long, cells_said pieces file x, cells_said (moved_down lo pieces) buf (x - lo), at-written_inside, moved_said lo pieces x low, kept x, at-written_before, at-written_after, none_below lo pieces x low, none_past (lo + length buf) pieces x high))

-- ---- one window after another

pub write_joined : (lists : List (List Cell)) (file : List ℕ) → fold (λ f cells. write_cells f cells) file lists ≡ write_cells file (flat_map (λ cells. cells) lists)
write_joined [] file = refl
write_joined (cells ∷ lists) file = grind (arith, nat_tests, write_joined lists (write_cells file cells), fold-append)

pub said_by_joined : (a b : List Cell) → said_by (a ++ b) ≡ said_by a ++ said_by b
said_by_joined a b = flat_map-append (λ cell. enumerate_from cell.0 cell.1) a b

pub said_joined : (a b : List Cell) (x : ℕ) → said_at (said_by (a ++ b)) x ≡ option_or (said_at (said_by b) x) (said_at (said_by a) x)
said_joined a b x = ap (λ ps. said_at ps x) (said_by_joined a b) ∙ said_append (said_by a) (said_by b) x

parts_only : (whole : List (ℕ × ℕ)) (lists : List (List Cell)) → AreParts whole lists → (x v : ℕ)
    → said_at (said_by (flat_map (λ cells. cells) lists)) x ≡ Some v → said_at whole x ≡ Some v
parts_only whole [] h x v e = no_none_some v e
parts_only whole (cells ∷ lists) h x v e = grind (arith, nat_tests, parts_only whole lists h.1 x v, said_joined)

joined_says : (whole : List (ℕ × ℕ)) (lists : List (List Cell)) → AreParts whole lists → (x v : ℕ) → said_at whole x ≡ Some v → SomeSays lists x v
    → said_at (said_by (flat_map (λ cells. cells) lists)) x ≡ Some v
joined_says whole [] are x v e h = absurd h
joined_says whole (cells ∷ lists) are x v e h =
    grind (arith, nat_tests, joined_says whole lists are.1 x v e, said_joined, some_or_none (said_at (said_by (flat_map (λ cells. cells) lists)) x), parts_only whole lists are.1 x, first_counts, second_counts)

-- parts that say nothing else, and everything between them, say together what the whole says
pub parts_said : (whole : List (ℕ × ℕ)) (lists : List (List Cell)) → AreParts whole lists → ((x v : ℕ) → said_at whole x ≡ Some v → SomeSays lists x v)
    → (x : ℕ) → said_at (said_by (flat_map (λ cells. cells) lists)) x ≡ said_at whole x
parts_said whole lists are each x = same_told _ _ (parts_only whole lists are x) (λ v e. joined_says whole lists are x v e (each x v e))

-- ---- the part of a cell in a window

pub clips_within : (lo hi : ℕ) (cells : List Cell) → lo ≤ hi → IsWithin (clips lo hi cells) hi
clips_within lo hi [] h = tt
clips_within lo hi (c ∷ cells) h = grind (arith, common_steps, clips_within lo hi cells h)

pub clips_from : (lo hi : ℕ) (cells : List Cell) → lo ≤ hi → IsFrom lo (clips lo hi cells)
clips_from lo hi [] h = tt
clips_from lo hi (c ∷ cells) h = (omega arith, clips_from lo hi cells h)

clip_in : (lo hi : ℕ) (c : Cell) (x : ℕ) → lo ≤ x → x < hi → said_at (enumerate_from (clip lo hi c).0 (clip lo hi c).1) x ≡ said_at (enumerate_from c.0 c.1) x
clip_in lo hi c x h k =
    grind (arith, common_steps, leb_tells c.0 x, said_below (clip lo hi c).0 (clip lo hi c).1 x, said_below c.0 c.1 x, said_past (clip lo hi c).0 (clip lo hi c).1 x, said_past c.0 c.1 x, said_inside (clip lo hi c).0 (clip lo hi c).1 x 0, said_inside c.0 c.1 x 0)

pub clips_in : (lo hi : ℕ) (cells : List Cell) (x : ℕ) → lo ≤ x → x < hi → said_at (said_by (clips lo hi cells)) x ≡ said_at (said_by cells) x
clips_in lo hi [] x h k = refl
clips_in lo hi (c ∷ cells) x h k = grind (arith, nat_tests, clips_in lo hi cells x h k, said_append, clip_in)

clips_part : (lo hi : ℕ) (cells : List Cell) → lo ≤ hi → IsPart (said_by cells) (clips lo hi cells)
clips_part lo hi cells h x v e =
    grind (arith, nat_tests, clips_within lo hi cells h, clips_from lo hi cells h, clips_in, ltb-true, no_none_some, none_past, ltb-false, none_below)

-- ---- the windows of a step

windows_are_parts : (cells : List Cell) (windows : List (ℕ × ℕ)) (n : ℕ) → IsInOne windows n → AreParts (said_by cells) (map (λ w. clips w.0 w.1 cells) windows)
windows_are_parts cells [] n h = tt
windows_are_parts cells (w ∷ windows) n h = (clips_part w.0 w.1 cells h.0, windows_are_parts cells windows n h.2)

window_says : (cells : List Cell) (windows : List (ℕ × ℕ)) (x v : ℕ) → HasEach windows x → said_at (said_by cells) x ≡ Some v
    → SomeSays (map (λ w. clips w.0 w.1 cells) windows) x v
window_says cells [] x v h e = h
window_says cells (w ∷ windows) x v xs e = grind (arith, nat_tests, clips_in, window_says cells windows x v, clips)

pub append_within : (a b : List Cell) (n : ℕ) → IsWithin a n → IsWithin b n → IsWithin (a ++ b) n
append_within [] b n h k = k
append_within (c ∷ a) b n h k = (h.0, append_within a b n h.1 k)

windows_within : (cells : List Cell) (windows : List (ℕ × ℕ)) (n : ℕ) → IsInOne windows n → IsWithin (flat_map (λ c. c) (map (λ w. clips w.0 w.1 cells) windows)) n
windows_within cells [] n h = tt
windows_within cells (w ∷ windows) n h = grind (arith, nat_tests, append_within, within_more (clips w.0 w.1 cells) w.1, clips_within, windows_within cells windows n h.2)

pub windows_done : (file : List ℕ) (cells : List Cell) (windows : List (ℕ × ℕ)) → IsWithin cells (length file) → IsInOne windows (length file)
    → ((x v : ℕ) → said_at (said_by cells) x ≡ Some v → HasEach windows x)
    → fold (λ f pieces. write_cells f pieces) file (map (λ w. clips w.0 w.1 cells) windows) ≡ write_cells file cells
windows_done file cells windows within each has = grind (arith, nat_tests, write_joined, same_said, windows_within, parts_said, windows_are_parts, window_says)
