-- Windows that are each read, overlaid and written, one after another.
use Rattle.overlay_laws.proofs.Words.{◌≡◌, ℕ, zero, suc, ◌+◌, ◌-◌, ◌<◌, ◌≤◌, None, refl, ◌∙◌, List, [], ◌∷◌, length, Some, arith, take, drop, fold, map, read_at, read_long, at, read, written, Cell, write_cells, IsWithin, IsFrom, moved_down, said_at, said_by, clips, IsInOne, HasEach, read_overlaid, all_read_overlaid, nat_tests}
use Rattle.overlay_laws.proofs.SaidLaws.{cells_long}
use Rattle.overlay_laws.proofs.WindowLaws.{clips_within, clips_from, within_more, window_done, windows_done}
use Rattle.overlay_laws.proofs.OriginLaws.{slice_step}

pub kept_read : (file buf : List ℕ) (lo n x : ℕ) → buf ≡ read file lo n → lo ≤ x → x < lo + n → at buf (x - lo) ≡ at file x
kept_read file buf lo n x e h k = grind (arith, nat_tests, read_at)

pub window_answer : (file buf : List ℕ) (n lo : ℕ) (cells : List Cell) → length buf ≡ n → lo + n ≤ length file → IsFrom lo cells → IsWithin cells (lo + n)
    → ((x : ℕ) → lo ≤ x → x < lo + n → said_at (said_by cells) x ≡ None → at buf (x - lo) ≡ at file x)
    → written file lo (write_cells buf (moved_down lo cells)) ≡ write_cells file cells
window_answer file buf n lo cells e room low high kept = grind (arith, nat_tests, window_done)

one_read : (file : List ℕ) (cells : List Cell) (w : ℕ × ℕ) → w.0 ≤ w.1 → w.1 ≤ length file
    → read_overlaid file cells w ≡ write_cells file (clips w.0 w.1 cells)
one_read file cells w h k =
    grind (arith, nat_tests, read_long file w.0 (w.1 - w.0), clips_from w.0 w.1 cells h, clips_within w.0 w.1 cells h, window_answer, kept_read)

windows_read : (windows : List (ℕ × ℕ)) (file : List ℕ) (cells : List Cell) → IsInOne windows (length file)
    → all_read_overlaid file cells windows ≡ fold (λ f pieces. write_cells f pieces) file (map (λ w. clips w.0 w.1 cells) windows)
windows_read [] file cells h = refl
windows_read (w ∷ windows) file cells h =
    let same = one_read file cells w h.0 h.1 in
    grind (arith, nat_tests, cells_long (clips w.0 w.1 cells) file, within_more (clips w.0 w.1 cells) w.1 (length file) h.1 (clips_within w.0 w.1 cells h.0), clips_within w.0 w.1 cells h.0, windows_read windows (write_cells file (clips w.0 w.1 cells)) cells, h.2, all_read_overlaid)

-- windows that have every place of the cells, each read, overlaid with its part of the cells and written, write the cells
pub all_read : (file : List ℕ) (cells : List Cell) (windows : List (ℕ × ℕ)) → IsWithin cells (length file) → IsInOne windows (length file)
    → ((x v : ℕ) → said_at (said_by cells) x ≡ Some v → HasEach windows x)
    → all_read_overlaid file cells windows ≡ write_cells file cells
all_read file cells windows within each has = windows_read windows file cells each ∙ windows_done file cells windows within each has

-- bytes read within a file, as a slice of it
pub read_slice : (file : List ℕ) (x n : ℕ) → x + n ≤ length file → read file x n ≡ take n (drop x file)
read_slice file x zero h = refl
read_slice file x (suc n) h = grind (arith, nat_tests, read_slice file (x + 1) n (omega arith), slice_step)
